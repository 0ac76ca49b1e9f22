-- What stands somewhere inside a core.
use Rattle.std.specs.Prelude.{Bool, false, ◌||◌}
use Rattle.rpl_core.specs.Core.{Core, Seq, Choice, Many, Not, And, Behind, Capture}
use Rattle.rpl_core.specs.Core.{Cores, NoMore, Then}

-- the core, or one inside it, passes the test
abbrev mutual
  pub some_inside : (Core → Bool) → Core → Bool
  some_inside test (Seq ps) = test (Seq ps) || some_of test ps
  some_inside test (Choice ps) = test (Choice ps) || some_of test ps
  some_inside test (Many p) = test (Many p) || some_inside test p
  some_inside test (Not p) = test (Not p) || some_inside test p
  some_inside test (And p) = test (And p) || some_inside test p
  some_inside test (Behind l m p) = test (Behind l m p) || some_inside test p
  some_inside test (Capture c p) = test (Capture c p) || some_inside test p
  some_inside test p = test p

  -- one of the parts, or a core inside one, passes the test
  pub some_of : (Core → Bool) → Cores → Bool
  some_of test NoMore = false
  some_of test (Then p ps) = some_inside test p || some_of test ps
