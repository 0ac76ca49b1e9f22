use Rattle.std.proofs.Common.{◌≡◌, ◌-◌, ◌^◌, ◌≤◌, ◌<◌, true, false, [], drop}
use Rattle.std.specs.Prelude.{encode_utf8_all}
use Rattle.rosie_run.specs.Devices.{SameInputs, SameOutputs}
use Rattle.rosie_run.specs.Given.{inputs_given}
use Rattle.rosie_run.specs.Inputs.{AreTold, names_of, reads_standard}
use Rattle.rosie_run.specs.Outputs.{telling, texts}
use Rattle.rosie_run.specs.Sources.{Still, moment_of}
use Rattle.rosie_run.specs.inside.Going.{Asked, Reached}
use Rattle.rosie_run.specs.inside.Showing.{SameLines}
use Rattle.rosie_run.proofs.inputs.run_inputs.Given as goal

-- the inputs so far were passed, and just their pieces are written
abbrev pub invariant-inputs : goal.invariant-inputs
invariant-inputs g l = record {
  same_lines : SameLines l.initial.lines l.lines;
  same_inputs : SameInputs l.initial.inputs l.inputs;
  same_outputs : SameOutputs l.initial.outputs l.outputs;
  parts : l.lines.reader.now.whole ≡ l.fn.wanted.reading.whole;
  most : l.lines.reader.now.most ≡ l.fn.wanted.reading.most;
  tool : l.lines.messages.now.tool ≡ l.fn.wanted.reading.tool;
  idle : g.J.LineJob.idle → l.outputs.steps.now ≡ l.initial.outputs.steps.now;
  same : g.J.LineJob.makes l.lines.job.now ≡ g.J.LineJob.makes l.initial.lines.job.now;
  reached : AreTold (names_of encode_utf8_all l.fn.wanted.names.now) g.F.Source.tells g.I.Source.tells
      → Reached (telling l.fn.wanted.reading.tool g.O.Sink g.E.Sink) (g.J.LineJob.makes l.initial.lines.job.now)
      l.fn.wanted.reading (g.F.Source.tree l.initial.inputs.files.now)
      (g.I.Source.rest l.initial.inputs.input.now) (g.I.Source.rest l.inputs.input.now)
      (names_of encode_utf8_all l.fn.wanted.names.now)
      (names_of encode_utf8_all (drop l.name-index l.fn.wanted.names.now)) l.read l.tally
      (texts g.O.Sink.written g.O.Sink.number g.E.Sink.written l.initial.outputs.out.now l.initial.outputs.err.now
      l.initial.outputs.steps.now) (texts g.O.Sink.written g.O.Sink.number g.E.Sink.written l.outputs.out.now
      l.outputs.err.now l.outputs.steps.now);
  last : AreTold (names_of encode_utf8_all l.fn.wanted.names.now) g.F.Source.tells g.I.Source.tells
      → g.J.LineJob.last_text l.lines.job.now
      (inputs_given l.fn.wanted.reading (g.F.Source.tree l.initial.inputs.files.now)
      (g.I.Source.rest l.inputs.input.now) (names_of encode_utf8_all (drop l.name-index l.fn.wanted.names.now)))
      ≡ g.J.LineJob.last_text l.initial.lines.job.now
      (inputs_given l.fn.wanted.reading (g.F.Source.tree l.initial.inputs.files.now)
      (g.I.Source.rest l.initial.inputs.input.now) (names_of encode_utf8_all l.fn.wanted.names.now));
  once : AreTold (names_of encode_utf8_all l.fn.wanted.names.now) g.F.Source.tells g.I.Source.tells → l.read ≡ true
      → g.I.Source.rest l.inputs.input.now ≡ [];
  untouched : l.read ≡ false → l.inputs.input.now ≡ l.initial.inputs.input.now;
  unread : reads_standard (names_of encode_utf8_all l.fn.wanted.names.now) ≡ false
      → l.inputs.input.now ≡ l.initial.inputs.input.now;
  input : Still (moment_of g.I.Source l.initial.inputs.input.now) (moment_of g.I.Source l.inputs.input.now);
  files : Still (moment_of g.F.Source l.initial.inputs.files.now) (moment_of g.F.Source l.inputs.files.now);
  input_taken : g.I.Source.taken l.inputs.input.now < 2 ^ 64 - 1
      → g.I.Source.taken l.initial.inputs.input.now ≤ g.I.Source.taken l.inputs.input.now;
  files_taken : g.F.Source.taken l.inputs.files.now < 2 ^ 64 - 1
      → g.F.Source.taken l.initial.inputs.files.now ≤ g.F.Source.taken l.inputs.files.now;
  out_faults : g.O.Sink.faults l.outputs.out.now ≡ g.O.Sink.faults l.initial.outputs.out.now;
  err_faults : g.E.Sink.faults l.outputs.err.now ≡ g.E.Sink.faults l.initial.outputs.err.now;
  tree : g.F.Source.tree l.inputs.files.now ≡ g.F.Source.tree l.initial.inputs.files.now;
  asked : Asked (names_of encode_utf8_all l.fn.wanted.names.now)
      (names_of encode_utf8_all (drop l.name-index l.fn.wanted.names.now))
      (g.F.Source.asked l.initial.inputs.files.now) (g.F.Source.asked l.inputs.files.now);
  past_end : g.I.Source.ended l.initial.inputs.input.now ≡ false
      → g.I.Source.asked l.inputs.input.now ≡ g.I.Source.asked l.initial.inputs.input.now;
}
