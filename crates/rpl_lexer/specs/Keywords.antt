-- The names that only the grammar may use.
use Rattle.std.specs.Prelude.{ℕ, Bool, is_some, List, [], ◌∷◌, Option, codes}
use Rattle.rpl_text.specs.Named.{first_named}
use Rattle.rpl_lexer.specs.declared.keyword.Keyword.{Keyword}
use Rattle.rpl_lexer.specs.declared.keyword.Keyword.TheVariants.{Rpl, Package, Import, As, Alias, Local, Grammar, In}
use Rattle.rpl_lexer.specs.declared.keyword.Keyword.TheVariants.{End}

-- how a keyword is spelled
abbrev pub word_of : Keyword → List ℕ
word_of Rpl = codes "rpl"
word_of Package = codes "package"
word_of Import = codes "import"
word_of As = codes "as"
word_of Alias = codes "alias"
word_of Local = codes "local"
word_of Grammar = codes "grammar"
word_of In = codes "in"
word_of End = codes "end"

-- the keyword that a name is, where it is one
unfoldable pub keyword_named : List ℕ → Option Keyword
keyword_named = first_named word_of (Rpl ∷ Package ∷ Import ∷ As ∷ Alias ∷ Local ∷ Grammar ∷ In ∷ End ∷ [])

abbrev pub is_keyword : List ℕ → Bool
is_keyword name = is_some (keyword_named name)
