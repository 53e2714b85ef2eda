-- What the functions on heads and transactions read. Only proofs and contracts of private functions cite this.
use Rattle.std.specs.Prelude.{◌≡◌, ℕ, ◌+◌, ◌<◌, ◌≤◌, List, [], ◌∷◌, ◌++◌, Option, Some, None, length}
use Rattle.dom_lexer.specs.declared.token.Token.{Token}
use Rattle.dom_ast.specs.declared.program.Head.{Head}
use Rattle.dom_ast.specs.declared.program.Init.{Init}
use Rattle.dom_ast.specs.declared.program.Length.{Length}
use Rattle.dom_ast.specs.Form.{ExprForm, TransactionForm, ProgramForm}
use Rattle.dom_parser.specs.declared.faults.Fault.{Fault}
use Rattle.dom_parser.specs.declared.faults.Fault.TheVariants.{Unexpected, TooNested, Memory}
use Rattle.dom_parser.specs.declared.kinds.Fixed.TheVariants as fixed
use Rattle.dom_parser.specs.Tokens.{Mark, offset_at}
use Rattle.dom_parser.specs.inner.AtPlace.{rest, text_at}
use Rattle.dom_parser.specs.Grammar.{Spells, sign, name_mark, Constant, constant_tokens, constant_word, Value, value_tokens, value_tree, Start, start_tokens, start_tree, Size, size_tokens, size_tree, Decl, decl_tokens, decl_tree, Decls, decls_tokens, decls_trees, Field, fields_tokens, fields_trees, Structure, struct_tokens, struct_tree, Guard, IsGuard, guard_tokens, guard_tree, Transaction, IsTransaction, transaction_tokens, transaction_tree, transactions_tokens, AreTransactions, transaction_trees}
use Rattle.dom_parser.specs.inner.Following as item
use Rattle.dom_parser.specs.inner.Following.{Item, close, whole, Problem, bad, deep, held, limit, fault_from}
use Rattle.dom_parser.specs.inner.Reads.{FailsBy, Step}

-- at any depth: the item is read from p to q, or fails
pub record ReadsAny (i : Item) (Is : List Mark → Type 0) (l : List Token) (p q : ℕ) : Type 0 where
  pub forth : p < q
  pub within : q ≤ length l
  pub reads : (n : ℕ) → n ≤ limit → Step i n l p q
  pub spelled : (ts : List Mark) × (rest l p ≡ ts ++ rest l q) × Is ts

pub record FailsAny (i : Item) (l : List Token) (p : ℕ) (f : Fault) : Type 0 where
  pub there : (n : ℕ) → n ≤ limit → FailsBy i n l p f

abbrev pub SpellsConstant : ℕ → List Mark → Type 0
SpellsConstant w ts = (way : Constant) × (constant_tokens way ≡ ts) × (constant_word way ≡ w)

abbrev pub SpellsValue : Init → List Mark → Type 0
SpellsValue v ts = (way : Value) × (value_tokens way ≡ ts) × (value_tree way ≡ v)

-- after the `=`
abbrev pub SpellsStart : Init → List Mark → Type 0
SpellsStart v ts = (p : ℕ) → (way : Start) × (start_tokens way ≡ sign fixed.Assign p ∷ ts) × (start_tree way ≡ Some v)

abbrev pub SpellsStartPart : Option Init → List Mark → Type 0
SpellsStartPart v ts = (way : Start) × (start_tokens way ≡ ts) × (start_tree way ≡ v)

-- between the brackets
abbrev pub SpellsSize : Length → List Mark → Type 0
SpellsSize v ts = (p q : ℕ) → (way : Size) × (size_tokens way ≡ sign fixed.OpenBracket p ∷ (ts ++ sign fixed.CloseBracket q ∷ [])) × (size_tree way ≡ Some v)

abbrev pub SpellsSizePart : Option Length → List Mark → Type 0
SpellsSizePart v ts = (way : Size) × (size_tokens way ≡ ts) × (size_tree way ≡ v)

abbrev pub SpellsDecl : Head → List Mark → Type 0
SpellsDecl h ts = (way : Decl) × (decl_tokens way ≡ ts) × (decl_tree way ≡ h)

-- declarations after others
pub record ReadsDecls (l : List Token) (p q : ℕ) (before all : List Head) : Type 0 where
  pub forth : p ≤ q
  pub within : q ≤ length l
  pub reads : Step item.decls 0 l p q
  pub spelled : (way : Decls) × (rest l p ≡ decls_tokens way ++ rest l q) × (before ++ decls_trees way ≡ all)

-- the three tokens of a field, from its `int`
pub record ReadsField (l : List Token) (p q : ℕ) (n : List ℕ) : Type 0 where
  pub within : p + 3 ≤ length l
  pub reads : (s : List Item) → held s ≤ limit → fault_from l (p + 1) (item.a_name ∷ item.term fixed.Semi ∷ s) ≡ fault_from l (p + 3) s
  pub spelled : (a : ℕ) × (b : ℕ) × (rest l p ≡ sign fixed.Int a ∷ name_mark q n ∷ sign fixed.Semi b ∷ rest l (p + 3))

pub record FailsFieldAt (l : List Token) (p : ℕ) (f : Problem) : Type 0 where
  pub there : (s : List Item) → held s ≤ limit → fault_from l (p + 1) (item.a_name ∷ item.term fixed.Semi ∷ s) ≡ Some f

abbrev pub FailsField : List Token → ℕ → Fault → Type 0
FailsField l p (Unexpected q) = FailsFieldAt l p (bad q)
FailsField l p (TooNested q) = FailsFieldAt l p (deep q)
FailsField l p Memory = Unit {0}

-- the fields in their braces
pub record ReadsFields (l : List Token) (p q : ℕ) (fs : List (ℕ × List ℕ)) : Type 0 where
  pub forth : p + 5 ≤ q
  pub within : q ≤ length l
  pub reads : Step item.field_block 0 l p q
  pub spelled : (o : ℕ) × (f : Field) × (others : List Field) × (c : ℕ) × (rest l p ≡ sign fixed.OpenBrace o ∷ (fields_tokens (f ∷ others) ++ sign fixed.CloseBrace c ∷ rest l q)) × (fields_trees (f ∷ others) ≡ fs)

abbrev pub SpellsStruct : Head → List Mark → Type 0
SpellsStruct h ts = (way : Structure) × (struct_tokens way ≡ ts) × (struct_tree way ≡ h)

-- what stands before the transactions
pub record ReadsHeads (l : List Token) (q : ℕ) (hs : List Head) : Type 0 where
  pub within : q ≤ length l
  pub reads : (s : List Item) → held s ≡ 0 → fault_from l 0 (item.decls ∷ item.structure ∷ item.decls ∷ s) ≡ fault_from l q s
  pub spelled : (d : Decls) × (z : Structure) × (e : Decls) × (rest l 0 ≡ decls_tokens d ++ (struct_tokens z ++ (decls_tokens e ++ rest l q))) × (decls_trees d ++ struct_tree z ∷ decls_trees e ≡ hs)

pub record FailsRow (r : List Item) (l : List Token) (p : ℕ) (f : Problem) : Type 0 where
  pub there : (s : List Item) → held s ≡ 0 → fault_from l p (r ++ s) ≡ Some f

abbrev pub FailsRowBy : List Item → List Token → ℕ → Fault → Type 0
FailsRowBy r l p (Unexpected q) = FailsRow r l p (bad q)
FailsRowBy r l p (TooNested q) = FailsRow r l p (deep q)
FailsRowBy r l p Memory = Unit {0}

-- the five tokens of a parameter
pub record ReadsHeader (l : List Token) (p : ℕ) : Type 0 where
  pub within : p + 5 ≤ length l
  pub reads : Step item.header 0 l p (p + 5)
  pub spelled : (a : ℕ) × (b : ℕ) × (c : ℕ) × (rest l p ≡ sign fixed.OpenParen a ∷ sign fixed.Struct b ∷ name_mark (offset_at l (p + 2)) (text_at l (p + 2)) ∷ name_mark (offset_at l (p + 3)) (text_at l (p + 3)) ∷ sign fixed.CloseParen c ∷ rest l (p + 5))

abbrev pub SpellsGuard : Option ExprForm → List Mark → Type 0
SpellsGuard g ts = (way : Guard) × IsGuard way × (guard_tokens way ≡ ts) × (guard_tree way ≡ g)

-- a transaction, from its `void`
abbrev pub transaction_row : List Item
transaction_row = item.a_name ∷ item.header ∷ item.guard ∷ item.block ∷ []

pub record ReadsTransaction (l : List Token) (p q : ℕ) (t : TransactionForm) : Type 0 where
  pub forth : p < q
  pub within : q ≤ length l
  pub reads : (s : List Item) → held s ≡ 0 → fault_from l (p + 1) (transaction_row ++ s) ≡ fault_from l q s
  pub spelled : (way : Transaction) × IsTransaction way × (rest l p ≡ transaction_tokens way ++ rest l q) × (transaction_tree way ≡ t)

pub record ReadsTransactions (l : List Token) (p q : ℕ) (ts : List TransactionForm) : Type 0 where
  pub within : q ≤ length l
  pub reads : fault_from l p (item.term fixed.Void ∷ (transaction_row ++ item.transactions ∷ [])) ≡ fault_from l q []
  pub spelled : (w : Transaction) × (ws : List Transaction) × IsTransaction w × AreTransactions ws × (rest l p ≡ transaction_tokens w ++ (transactions_tokens ws ++ rest l q)) × (transaction_tree w ∷ transaction_trees ws ≡ ts)

-- the first problem of the whole
pub record FailsWhole (r : List Item) (l : List Token) (p : ℕ) (f : Problem) : Type 0 where
  pub there : fault_from l p r ≡ Some f

abbrev pub FailsWholeBy : List Item → List Token → ℕ → Fault → Type 0
FailsWholeBy r l p (Unexpected q) = FailsWhole r l p (bad q)
FailsWholeBy r l p (TooNested q) = FailsWhole r l p (deep q)
FailsWholeBy r l p Memory = Unit {0}

-- the tokens spell the program, and no problem comes up
pub record ReadsWhole (p : ProgramForm) (l : List Token) : Type 0 where
  pub spelled : Spells p l
  pub reads : fault_from l 0 whole ≡ None
