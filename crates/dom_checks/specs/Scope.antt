-- What names mean at a place of a program, and what heads declare.
use Rattle.std.specs.Prelude.{ℕ, Bool, false, List, [], ◌∷◌, ◌++◌, fold, length, map, slice_get, Option, Some, None, if◌then◌else◌}
use Rattle.dom_words.specs.declared.array.Array.{Array}
use Rattle.dom_words.specs.Names.{index_of, is_same}
use Rattle.dom_ast.specs.declared.program.Head.{Head}
use Rattle.dom_ast.specs.declared.program.Head.TheVariants as head
use Rattle.dom_ast.specs.declared.program.Length.{Length}
use Rattle.dom_ast.specs.declared.program.Length.TheVariants as extent
use Rattle.dom_ast.specs.declared.program.Init.{Init}
use Rattle.dom_ast.specs.declared.program.Init.TheVariants as init
use Rattle.dom_checks.specs.declared.meant.Meant.{Meant}
use Rattle.dom_checks.specs.declared.meant.Meant.TheVariants as meaning

-- the struct's name and its fields; the defines and globals in order, with what each means; the arrays; and the parameter,
-- inside a transaction
pub record Scope : Type 0 where
  pub tag : List ℕ
  pub fields : List (List ℕ)
  pub names : List (List ℕ)
  pub meanings : List Meant
  pub arrays : List Array
  pub param : Option (List ℕ)

-- nothing is declared
abbrev pub nothing : Scope
nothing = record { tag = []; fields = []; names = []; meanings = []; arrays = []; param = None }

-- the name is the parameter's
abbrev pub is_param : Option (List ℕ) → List ℕ → Bool
is_param None name = false
is_param (Some param) name = is_same param name

-- the meaning at a place, if there is one
abbrev pub meaning_at : List Meant → Option ℕ → Option Meant
meaning_at meanings None = None
meaning_at meanings (Some k) = slice_get meanings k

-- what a name means, where it is declared
abbrev pub meant : Scope → List ℕ → Option Meant
meant scope name = if is_param scope.param name then Some meaning.Parameter else meaning_at scope.meanings (index_of scope.names name)

-- the word of a define; 0 for all else
abbrev pub define_word : Option Meant → ℕ
define_word (Some (meaning.Define w)) = w
define_word _ = 0

-- how many words a global has; one without brackets has one
abbrev pub length_of : Scope → Option Length → ℕ
length_of scope None = 1
length_of scope (Some (extent.Number p w)) = w
length_of scope (Some (extent.Word p n)) = define_word (meant scope n)

-- the word that a global starts with
abbrev pub init_of : Scope → Option Init → ℕ
init_of scope None = 0
init_of scope (Some (init.Word w)) = w
init_of scope (Some (init.Named p n)) = define_word (meant scope n)

-- a global without brackets is a scalar
abbrev pub global_meaning : ℕ → Option Length → Meant
global_meaning k None = meaning.Scalar k
global_meaning k (Some l) = meaning.Array k

-- the scope with one more name and what it means
abbrev pub with_name : Scope → List ℕ → Meant → Scope
with_name scope name m = record scope { names = scope.names ++ name ∷ []; meanings = scope.meanings ++ m ∷ [] }

-- with one more array
abbrev pub with_array : Scope → Array → Scope
with_array scope array = record scope { arrays = scope.arrays ++ array ∷ [] }

-- with the struct
abbrev pub with_struct : Scope → List ℕ → List (List ℕ) → Scope
with_struct scope tag fields = record scope { tag = tag; fields = fields }

-- inside a transaction with this parameter
abbrev pub with_param : Scope → List ℕ → Scope
with_param scope param = record scope { param = Some param }

-- a global's own name is declared where its length and its first word are looked at
abbrev pub with_global : Scope → List ℕ → Option Length → Scope
with_global scope name l = with_name scope name (global_meaning (length scope.arrays) l)

-- the array that a global declares
abbrev pub declared_array : Scope → List ℕ → Option Length → Option Init → Array
declared_array scope name l i = record { name = name; length = length_of scope l; init = init_of scope i }

-- what is declared after a head
abbrev pub declared : Scope → Head → Scope
declared scope (head.Define p name w) = with_name scope name (meaning.Define w)
declared scope (head.Struct p tag fields) = with_struct scope tag (map (λ f. f.1) fields)
declared scope (head.Global p name l i) =
    with_array (with_global scope name l) (declared_array (with_global scope name l) name l i)

-- what is declared after all heads
abbrev pub heads_scope : List Head → Scope
heads_scope heads = fold declared nothing heads
