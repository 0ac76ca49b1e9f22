-- How long the rules' bodies are, and where they begin.
use Rattle.std.specs.Prelude.{◌≡◌, ℕ, ◌+◌, ◌≤◌, min, Bool, true, false, if◌then◌else◌, List, [], ◌∷◌, ◌++◌}
use Rattle.std.specs.Prelude.{Option, Some, None}
use Rattle.rpl_core.specs.Code.{Placed, code}
use Rattle.rpl_core.specs.Core.{Core}
use Rattle.rpl_core.specs.Instr as I
use Rattle.rpl_core.specs.Programs.{address, max_code_length}
use Rattle.rpl_codegen.specs.inside.Sizes.{len}
use Rattle.rpl_codegen.specs.inside.Nodes.{nodes_in}
use Rattle.rpl_codegen.specs.declared.size.Node.{Node}
use Rattle.rpl_codegen.specs.inside.Written.{address_of}
use Rattle.rpl_codegen.specs.declared.layout.Layout.{Layout}

-- a body with its return, if there is such a rule
abbrev pub body_len : Option Core → ℕ
body_len None = 0
body_len (Some p) = len p + 1

-- the bodies of the marked rules; the first rule has the number k
abbrev pub bodies_len : (ℕ → Bool) → List Core → ℕ → ℕ
bodies_len marks [] k = 0
bodies_len marks (p ∷ ps) k = (if marks k then len p + 1 else 0) + bodies_len marks ps (k + 1)

-- the whole code
abbrev pub whole_len : (ℕ → Bool) → List Core → Core → ℕ
whole_len marks R g = len g + 1 + bodies_len marks R 0

-- the layout has the length of the code up to the limit, and the address of each rule where the code isn't longer
pub record LaysOut (marks : ℕ → Bool) (R : List Core) (g : Core) (l : Layout) : Type 0 where
  pub whole : l.end ≡ min 1048577 (whole_len marks R g)
  pub each : whole_len marks R g ≤ max_code_length → address_of l ≡ address marks R g

-- the code of one rule, if it is marked and there is such a rule
abbrev pub rule_code : Bool → (ℕ → ℕ) → Option Core → Placed
rule_code false at o a = []
rule_code true at None a = []
rule_code true at (Some p) a = code at p a ++ I.Return ∷ []

-- the nodes of the body of one rule, if it is marked and there is such a rule
abbrev pub rule_nodes : Bool → Option Core → List Node
rule_nodes false o = []
rule_nodes true None = []
rule_nodes true (Some p) = nodes_in p

-- the nodes of the bodies of the marked rules; the first rule has the number k
abbrev pub bodies_nodes : (ℕ → Bool) → List Core → ℕ → List Node
bodies_nodes marks [] k = []
bodies_nodes marks (p ∷ ps) k = rule_nodes (marks k) (Some p) ++ bodies_nodes marks ps (k + 1)
