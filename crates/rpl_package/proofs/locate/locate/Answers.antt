use Rattle.std.proofs.Common.{ap₂, arith, refl, sym, ◌∙◌}
use Rattle.std.specs.Prelude.{encode_utf8_all}
use Rattle.rosie_io.specs.Opening.{file_of}
use Rattle.rpl_package.proofs.Leaving.{after, still}
use Rattle.rpl_package.proofs.Locating.{all_asked, files_tell, last_asked, next_left, none_left}
use Rattle.rpl_package.proofs.Locating.{read_failed, search_passed}
use Rattle.rpl_package.proofs.Outcomes.{may_lead, out_first, same, trail}
use Rattle.rpl_package.proofs.locate.locate.Goals as goal

pub returns-in_err-file-clause-asked : goal.returns-in_err-file-clause-asked
returns-in_err-file-clause-asked g c = λ told.
    search_passed c.from_residual.result _ _ c.from_residual.ensures.1
    (may_lead _ _ _ (c.loop-folder.invariant.left told) (out_first _))

pub returns-in_err-read-clause-asked : goal.returns-in_err-read-clause-asked
returns-in_err-read-clause-asked g c = λ told.
    let T = g.F.Source.tree c.args.files.now in
    let ds = c.args.folders.now in
    let path = c.args.path.now in
    let i = c.loop-folder.folder-index in
    let s = c.in_err-read.field-0.0 in
    search_passed c.from_residual-in_err-read.result s _ c.from_residual-in_err-read.ensures.1
    (may_lead s _ _ (c.loop-folder.invariant.left told)
    (read_failed T ds path i c.folder-item.result c.loop-folder-test.true c.folder-item.is c.in_ok-file.file s
    c.in_ok-file.ensures c.read_in.ensures.asked c.in_err-read.ensures.quiet c.in_err-read.ensures.asks))

pub loop-folder-preserved : goal.loop-folder-preserved
loop-folder-preserved g c =
    let T = g.F.Source.tree c.args.files.now in
    let ds = c.args.folders.now in
    let path = c.args.path.now in
    let i = c.loop-folder.folder-index in
    let d = c.folder-item.result in
    let inv = c.loop-folder.invariant in
    let here = ap₂ (λ f t. file_of (encode_utf8_all f) t) (sym c.in_ok-file.ensures) (sym inv.files.tree) in
    record {
      files = after g.F.Source _ _ _ _ _ _ inv.files c.in_ok-read.ensures.files;
      left = λ told.
          let tells = files_tell g.F.Source.tells T ds path i c.loop-folder-test.true told in
          let none = rw c.in_default.is at c.in_ok-read.ensures.found tells in
          trail _ _ _
          (next_left T ds path i d c.loop-folder-test.true c.folder-item.is c.in_ok-file.file c.in_ok-file.ensures
          (here ∙ none) c.read_in.ensures.asked) (inv.left told);
    }

pub loop-folder-init : goal.loop-folder-init
loop-folder-init g c = record {
  files = still g.F.Source (tt {0}) c.args.files.now;
  left = λ told. same _ _ refl;
}

pub returns-in-Some-clause-asked : goal.returns-in-Some-clause-asked
returns-in-Some-clause-asked g c = λ told.
    let T = g.F.Source.tree c.args.files.now in
    let ds = c.args.folders.now in
    let path = c.args.path.now in
    let i = c.loop-folder.folder-index in
    let inv = c.loop-folder.invariant in
    let here = ap₂ (λ f t. file_of (encode_utf8_all f) t) (sym c.in_ok-file.ensures) (sym inv.files.tree) in
    let tells = files_tell g.F.Source.tells T ds path i c.loop-folder-test.true told in
    let found = rw c.in-Some.is at c.in_ok-read.ensures.found tells in
    all_asked _ _ (inv.left told)
    (last_asked T ds path i c.folder-item.result c.loop-folder-test.true c.folder-item.is _ _ c.in_ok-file.file found.0
    c.in_ok-file.ensures (here ∙ found.1) c.read_in.ensures.asked)

pub returns-clause-asked : goal.returns-clause-asked
returns-clause-asked g c = λ told.
    none_left (g.F.Source.tree c.args.files.now) c.args.folders.now c.args.path.now c.loop-folder.folder-index
    (omega (arith, c.loop-folder-test.false))
    (c.loop-folder.invariant.left told)
