use Rattle.std.proofs.Common.{◌≡◌, ◌≤◌, inl, length, refl, sym, ap, subst, ◌∙◌}
use Rattle.std.specs.Prelude.{Err, Ok, Some, encode_utf8_all, map}
use Rattle.rosie_io.specs.Opening.{file_of}
use Rattle.rosie_run.specs.Unready.{HasAsked}
use Rattle.rpl_names.specs.Loading.{world}
use Rattle.rpl_names.specs.Roots.{load}
use Rattle.rpl_names.specs.Sets.{set_seen}
use Rattle.rosie_suites.specs.Suites.{loading}
use Rattle.rosie_prepare.specs.Prepared.{TablePasses}
use Rattle.rosie_prepare.specs.declared.prepared.PreparedRules.{PreparedRules}
use Rattle.rosie_suites.proofs.Loads.{again_asked, all_asked, comes_loaded, load_asked, none_asked, own_asked}
use Rattle.rosie_suites.proofs.Loads.{text_read}
use Rattle.rosie_suites.proofs.Paid.{suite_pays}
use Rattle.rosie_suites.proofs.loading.load_suite.Goals as goal

pub returns-in-Ok-read_again-clause-prepares : goal.returns-in-Ok-read_again-clause-prepares
returns-in-Ok-read_again-clause-prepares g c = λ t asked r is.
    let tree = g.F.Source.tree c.args.files.now in
    let file = c.args.file in
    let p = set_seen c.in-Ok.ready.packages in
    let comes =
    comes_loaded tree c.args.folders.now file c.args.budget asked r _ p is c.in_ok-roots.ensures
    (c.in-Ok.ensures.prepares (inl t)) in
    let bytes = c.as_str.result.now in
    let read = c.in-Ok-read_again.ensures.reads t in
    let there : file_of (encode_utf8_all file) tree ≡ Some bytes =
    ap (file_of (encode_utf8_all file)) (sym c.in-Ok.ensures.tree) ∙ read.0 ∙ ap Some (sym c.as_str.ensures.value) in
    let short = subst (λ bs. length bs ≤ 1048576) (sym c.as_str.ensures.value) read.1 in
    c.suite_over.ensures.prepares r
    (text_read tree file c.args.budget (map encode_utf8_all (loading tree c.args.folders.now file).asked) asked r bytes
    p
    c.as_str.utf8 there short comes)

pub returns-in-Ok-read_again-clause-due : goal.returns-in-Ok-read_again-clause-due
returns-in-Ok-read_again-clause-due g c = suite_pays c.suite_over.result

pub returns-in_err-roots-clause-asked : goal.returns-in_err-roots-clause-asked
returns-in_err-roots-clause-asked g c = λ t asked r is.
    none_asked c.from_residual.result _ _ asked refl c.from_residual.ensures.1

pub returns-in-Ok-read_again-clause-asked : goal.returns-in-Ok-read_again-clause-asked
returns-in-Ok-read_again-clause-asked g c = λ t asked r is.
    let tree = g.F.Source.tree c.args.files.now in
    let folders = c.args.folders.now in
    let file = c.args.file in
    let p = set_seen c.in-Ok.ready.packages in
    let paths = map encode_utf8_all (loading tree folders file).asked in
    own_asked c.suite_over.result c.in-Ok-read_again.text _ _ asked c.suite_over.ensures.own
    (again_asked tree file c.args.budget paths asked r _ _ _ (Ok c.in-Ok-read_again.text) p
    (all_asked c.in-Ok.ready _ _ paths
    (subst (λ roots. HasAsked (g.F.Source.asked c.args.files.now) (g.F.Source.asked c.prepare_rules.new.files)
    (Ok c.in-Ok.ready) (map encode_utf8_all (load (world tree folders) roots).asked)) c.in_ok-roots.ensures
    (c.in-Ok.ensures.asked (inl t)))) c.in-Ok-read_again.ensures.asked
    (comes_loaded tree folders file c.args.budget asked r _ p is c.in_ok-roots.ensures
    (c.in-Ok.ensures.prepares (inl t))))

pub returns-in-Err-read_again-clause-asked : goal.returns-in-Err-read_again-clause-asked
returns-in-Err-read_again-clause-asked g c = λ t asked r is.
    let tree = g.F.Source.tree c.args.files.now in
    let folders = c.args.folders.now in
    let file = c.args.file in
    let p = set_seen c.in-Ok.ready.packages in
    let paths = map encode_utf8_all (loading tree folders file).asked in
    again_asked tree file c.args.budget paths asked r {X = Unit {0}} _ _ _ (Err c.in-Err-read_again.unready) p
    (all_asked c.in-Ok.ready _ _ paths
    (subst (λ roots. HasAsked (g.F.Source.asked c.args.files.now) (g.F.Source.asked c.prepare_rules.new.files)
    (Ok c.in-Ok.ready) (map encode_utf8_all (load (world tree folders) roots).asked)) c.in_ok-roots.ensures
    (c.in-Ok.ensures.asked (inl t)))) c.in-Err-read_again.ensures.asked
    (comes_loaded tree folders file c.args.budget asked r _ p is c.in_ok-roots.ensures
    (c.in-Ok.ensures.prepares (inl t)))

pub returns-in-Err-clause-asked : goal.returns-in-Err-clause-asked
returns-in-Err-clause-asked g c = λ t asked r is.
    let tree = g.F.Source.tree c.args.files.now in
    let folders = c.args.folders.now in
    let file = c.args.file in
    let u = c.in-Err.unready in
    let paths = map encode_utf8_all (loading tree folders file).asked in
    let here =
    subst (λ roots. HasAsked {X = PreparedRules} (g.F.Source.asked c.args.files.now)
    (g.F.Source.asked c.prepare_rules.new.files) (Err u)
    (map encode_utf8_all (load (world tree folders) roots).asked)) c.in_ok-roots.ensures
    (c.in-Err.ensures.asked (inl t)) in
    load_asked tree file c.args.budget paths asked r _ _ u is.packages
    (c.in-Err.ensures.prepares (inl t) is.packages
    (subst (λ roots. TablePasses (load (world tree folders) roots).answer is.packages) (sym c.in_ok-roots.ensures)
    is.loads)) here is.comes
