-- The laws of loaded sets.
use Rattle.std.specs.Prelude.{slice_get}
use Rattle.rpl_names.proofs.Numbering.{nth_within}
use Rattle.rpl_names.specs.Goals.{pattern_file}
use Rattle.rpl_expand.proofs.Building.{set_of}
use Rattle.rpl_expand.proofs.Goals.{stand_by}
use Rattle.rpl_expand.proofs.Names as N
use Rattle.rpl_expand.proofs.Naming.{goal_names, said_names}
use Rattle.rpl_expand.proofs.Owning.{own_is_rule}
use Rattle.rpl_expand.proofs.Scoping.{make_trees, rules_in_order, scope_over}
use Rattle.rpl_expand.proofs.Tables.{all_bound, each_stated}
use Rattle.rpl_expand.proofs.Told as T
use Rattle.rpl_expand.specs.LoadLaws.{LoadedIsBound, ModulesAreApart, OwnNamesAreRules, PatternsResolve, ScopesAreOver}
use Rattle.rpl_expand.specs.LoadLaws.{StatementsResolve}
use Rattle.rpl_expand.specs.LoadLaws.{RulesHaveStatements, TableIsDistinct, TablesAreInOrder, ToldIsBuilt, TopIsThere}
use Rattle.rpl_expand.specs.LoadLaws.{TreesAreMade}

-- every set that is loaded over a tree of files is built
pub told_is_built : ToldIsBuilt
told_is_built tree folders p h = T.told_is_built tree folders p h

-- each name in a statement of a built set is bound to an earlier rule, or to one of its own block
pub loaded_is_bound : LoadedIsBound
loaded_is_bound p h = all_bound p (set_of p h).stock.sound

pub statements_resolve : StatementsResolve
statements_resolve p h n e q is c = said_names p (set_of p h).stock.sound n e q is c

-- each name of a pattern without a fault, over a built set, refers to a rule
pub patterns_resolve : PatternsResolve
patterns_resolve p h e none q c =
    let packages = set_of p h in
    let stand = stand_by pattern_file e p.stock (slice_get p.stock.modules p.top) none in
    goal_names p packages.stock.sound e q packages.top stand c

-- the table of a built set is in order
pub tables_are_in_order : TablesAreInOrder
tables_are_in_order p h rs same = rules_in_order p rs same (set_of p h).stock.sound

-- the scopes of the statements and of the pattern of a built set are over the rules of its table
pub scopes_are_over : ScopesAreOver
scopes_are_over p h rs n same = scope_over p rs same (set_of p h).stock.sound n

-- a name that is marked as making a tree, in a built set, is bound to a rule whose body is a capture
pub trees_are_made : TreesAreMade
trees_are_made p h rs n same = make_trees p rs same (set_of p h).stock.sound n

-- each name that a module of a built set binds is bound to a rule of the table
pub own_names_are_rules : OwnNamesAreRules
own_names_are_rules p h rs i n t same e = own_is_rule p rs same (set_of p h).stock.sound i n t e

pub modules_are_apart : ModulesAreApart
modules_are_apart p h = N.modules_apart p h

-- no two rules in the table of a built set have the same full name
pub table_is_distinct : TableIsDistinct
table_is_distinct p h = N.table_distinct p h

pub top_is_there : TopIsThere
top_is_there p h = let top = (set_of p h).top in nth_within p.stock.modules p.top top.0 top.1

pub rules_have_statements : RulesHaveStatements
rules_have_statements p h n lt = each_stated p n lt
