-- What a sample wants, as it is prepared.
use Rattle.std.proofs.Common.{ℕ, ◌≡◌, List, [], ◌∷◌, sym, ◌∙◌, ap, subst}
use Rattle.std.specs.Prelude.{chars}
use Rattle.rosie_prepare.specs.Prepared.{IsPrepared, OrLine, Ready, Tree}
use Rattle.rosie_jobs.specs.SampleCounts.{sample_pattern, sample_rules}
use Rattle.rpl_names.specs.declared.roots.Root.{Root}
use Rattle.rpl_names.specs.declared.roots.Root.TheVariants.{Given}
use Rattle.rosie_cli.specs.Planned.{sample_request}
use Rattle.rosie_cli.specs.inside.Planning.{wanted_text}

pub request_sample : (roots : List Root) (folders : List (List ℕ)) (text : List ℕ) (tree : Tree)
    (asked : List (List ℕ)) (ready : OrLine Ready) → roots ≡ Given (chars sample_rules) ∷ [] → text ≡ sample_pattern
    → IsPrepared tree (sample_request folders) asked ready
    → IsPrepared tree (wanted_text roots folders text) asked ready
request_sample roots folders text tree asked ready e f h =
    subst (λ w. IsPrepared tree w asked ready)
    (ap (λ r. wanted_text r folders sample_pattern) (sym e) ∙ ap (wanted_text roots folders) (sym f)) h
