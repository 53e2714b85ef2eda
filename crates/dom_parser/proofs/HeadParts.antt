-- What the functions on heads read.
use Rattle.std.proofs.Common.{◌≡◌, ℕ, ◌+◌, ◌-◌, ◌%◌, ◌^◌, ◌≤◌, Bool, true, false, List, [], ◌∷◌, ◌++◌, Option, Some, None, length, refl, sym, ap, ◌∙◌, arith, append_assoc, if◌then◌else◌}
use Rattle.std.proofs.lemmas.List.{append-nil}
use Rattle.dom_words.specs.declared.operators.BinOp.TheVariants as bin
use Rattle.dom_lexer.specs.declared.token.Token.{Token}
use Rattle.dom_ast.specs.declared.program.Head.{Head}
use Rattle.dom_ast.specs.declared.program.Head.TheVariants as head
use Rattle.dom_ast.specs.declared.program.Init.{Init}
use Rattle.dom_ast.specs.declared.program.Init.TheVariants as init
use Rattle.dom_ast.specs.declared.program.Length.{Length}
use Rattle.dom_ast.specs.declared.program.Length.TheVariants as size
use Rattle.dom_parser.specs.declared.faults.Fault.{Fault}
use Rattle.dom_parser.specs.declared.faults.Fault.TheVariants.{Unexpected, TooNested, Memory}
use Rattle.dom_parser.specs.declared.kinds.Fixed.TheVariants as fixed
use Rattle.dom_parser.specs.declared.kinds.Declared.{Declared}
use Rattle.dom_parser.specs.declared.kinds.Declared.TheVariants as declared
use Rattle.dom_parser.specs.Tokens.{Mark, stands, offset_at, ahead, is_minus}
use Rattle.dom_parser.specs.inner.AtPlace.{rest, text_at, is_fixed, is_name, number_of}
use Rattle.dom_parser.specs.Grammar.{sign, name_mark, number_mark, bin_mark, plain, negative, constant_tokens, constant_word, a_constant, a_name, value_tokens, no_start, bare, braced, start_tokens, start_tree, no_size, number_size, name_size, size_tokens, size_tree, a_define, a_global, decl_tokens, no_decls, then_decl, decls_tokens, decls_trees}
use Rattle.dom_parser.specs.inner.Following as item
use Rattle.dom_parser.specs.inner.Following.{Item, term, close, ended, when, then_row, number_row, constant_row, decl_row, declared_of, declares, expand, may_skip, held, limit, fault_from}
use Rattle.dom_parser.specs.inner.Reads.{FailsBy, Step, Reads, Passes}
use Rattle.dom_parser.specs.inner.HeadReads.{ReadsAny, FailsAny, SpellsConstant, SpellsValue, SpellsStart, SpellsStartPart, SpellsSize, SpellsSizePart, SpellsDecl, ReadsDecls}
use Rattle.dom_parser.proofs.SoFar.{DeclsSoFar}
use Rattle.dom_parser.proofs.KnownKinds.{kind_number, kind_minus, declared_define, declared_global}
use Rattle.dom_parser.proofs.Steps.{skips, fails, first_of, same_row, row_none, row_one, row_here, row_later, row_read, row_failed, fails_here, fails_as, one_token, read_term, read_name, read_close, fails_term, fails_name, fails_close, fixed_mark, fixed_inside, sign_mark, named_mark, named_inside, numeral_mark, numeral_inside, operator_mark}

pub step_to : (i : Item) (n : ℕ) (l : List Token) (p q r : ℕ) → q ≡ r → Step i n l p q → Step i n l p r
step_to i n l p q r e a s z = a s z ∙ ap (λ (k : ℕ). fault_from l k s) e

pub mark_to : (t : Mark) (l : List Token) (p q r : ℕ) → q ≡ r → rest l p ≡ t ∷ rest l q → rest l p ≡ t ∷ rest l r
mark_to t l p q r e a = a ∙ ap (λ (k : ℕ). t ∷ rest l k) e

-- two items of which neither may be nothing, that begin alike
alike : (l : List Token) (p : ℕ) (i j : Item) (s : List Item) → may_skip i ≡ false → may_skip j ≡ false → expand i (stands l p) (ahead l p) ≡ expand j (stands l p) (ahead l p) → fault_from l p (i ∷ s) ≡ fault_from l p (j ∷ s)
alike l p i j s a b e = go (expand j (stands l p) (ahead l p)) refl
  where
    go : (o : Option (List Item)) → expand j (stands l p) (ahead l p) ≡ o → fault_from l p (i ∷ s) ≡ fault_from l p (j ∷ s)
    go None f = fails l p i s (e ∙ f) a ∙ sym (fails l p j s f b)
    go (Some row) f = same_row l p i j row s (e ∙ f) f

-- constants

constant_at : (l : List Token) (p : ℕ) (o : Option ℕ) → number_of (stands l p) ≡ o → expand item.constant (stands l p) (ahead l p) ≡ constant_row o (is_minus (stands l p))
constant_at l p o e = ap (λ (x : Option ℕ). constant_row x (is_minus (stands l p))) e

minus_at : (l : List Token) (p : ℕ) (b : Bool) → number_of (stands l p) ≡ None → is_minus (stands l p) ≡ b → expand item.constant (stands l p) (ahead l p) ≡ when b (item.a_number ∷ [])
minus_at l p b e f = constant_at l p None e ∙ ap (λ (x : Bool). when x (item.a_number ∷ [])) f

pub reads_plain : (l : List Token) (p w : ℕ) → number_of (stands l p) ≡ Some w → ReadsAny item.constant (SpellsConstant w) l p (p + 1)
reads_plain l p w e =
    let k = kind_number (stands l p) w e in
    let inside = numeral_inside l p w k in
    record {
      forth = omega arith;
      within = omega arith;
      reads = λ n h. one_token item.constant n l p (constant_at l p (Some w) e) h;
      spelled = (number_mark (offset_at l p) w ∷ [], numeral_mark l p w k, (plain (offset_at l p) w, refl, refl));
    }

pub no_constant : (l : List Token) (p : ℕ) → number_of (stands l p) ≡ None → is_minus (stands l p) ≡ false → FailsAny item.constant l p (Unexpected p)
no_constant l p e f = record { there = λ n h. fails_here item.constant n l p (minus_at l p false e f) refl }

pub no_number_after : (l : List Token) (p : ℕ) → number_of (stands l p) ≡ None → is_minus (stands l p) ≡ true → number_of (stands l (p + 1)) ≡ None → FailsAny item.constant l p (Unexpected (p + 1))
no_number_after l p e f g = record {
  there = λ n h. row_failed item.constant (item.a_number ∷ []) n l p (Unexpected (p + 1)) (minus_at l p true e f) (omega arith) (row_here item.a_number [] n n l (p + 1) (Unexpected (p + 1)) (omega arith) (fails_here item.a_number n l (p + 1) (ap number_row g) refl));
}

pub reads_negative : (l : List Token) (p w : ℕ) → number_of (stands l p) ≡ None → is_minus (stands l p) ≡ true → number_of (stands l (p + 1)) ≡ Some w → ReadsAny item.constant (SpellsConstant ((2 ^ 32 - w) % 2 ^ 32)) l p (p + 2)
reads_negative l p w e f g =
    let two : p + 1 + 1 ≡ p + 2 = omega arith in
    let k = kind_number (stands l (p + 1)) w g in
    let inside = numeral_inside l (p + 1) w k in
    let second = mark_to (number_mark (offset_at l (p + 1)) w) l (p + 1) (p + 1 + 1) (p + 2) two (numeral_mark l (p + 1) w k) in
    record {
      forth = omega arith;
      within = omega arith;
      reads = λ n h. row_read item.constant (item.a_number ∷ []) n l p (p + 2) (minus_at l p true e f) (omega arith) (row_one item.a_number [] n n l (p + 1) (p + 2) (p + 2) (omega arith) (step_to item.a_number n l (p + 1) (p + 1 + 1) (p + 2) two (one_token item.a_number n l (p + 1) (ap number_row g) h)) (row_none n l (p + 2)));
      spelled = (bin_mark bin.Sub (offset_at l p) ∷ number_mark (offset_at l (p + 1)) w ∷ [], operator_mark bin.Sub l p (kind_minus (stands l p) f) ∙ ap (λ (x : List Mark). bin_mark bin.Sub (offset_at l p) ∷ x) second, (negative (offset_at l p) (offset_at l (p + 1)) w, refl, refl));
    }

-- values

pub named_value : (l : List Token) (p x : ℕ) (t : List ℕ) → is_name (stands l p) ≡ true → x ≡ offset_at l p → t ≡ text_at l p → ReadsAny item.value (SpellsValue (init.Named x t)) l p (p + 1)
named_value l p x t e f g =
    let inside = named_inside l p e in
    record {
      forth = omega arith;
      within = omega arith;
      reads = λ n h. one_token item.value n l p (ap (λ (b : Bool). if b then Some [] else constant_row (number_of (stands l p)) (is_minus (stands l p))) e) h;
      spelled = (name_mark (offset_at l p) (text_at l p) ∷ [], named_mark l p e, (a_name (offset_at l p) (text_at l p), refl, sym (ap (λ (y : ℕ). init.Named y t) f ∙ ap (init.Named (offset_at l p)) g)));
    }

as_constant : (l : List Token) (p : ℕ) → is_name (stands l p) ≡ false → (s : List Item) → fault_from l p (item.value ∷ s) ≡ fault_from l p (item.constant ∷ s)
as_constant l p e s = alike l p item.value item.constant s refl refl (ap (λ (b : Bool). if b then Some [] else constant_row (number_of (stands l p)) (is_minus (stands l p))) e)

pub constant_value : (l : List Token) (p q w : ℕ) → is_name (stands l p) ≡ false → ReadsAny item.constant (SpellsConstant w) l p q → ReadsAny item.value (SpellsValue (init.Word w)) l p q
constant_value l p q w e r = record {
  forth = r.forth;
  within = r.within;
  reads = λ n h s z. as_constant l p e s ∙ r.reads n h s z;
  spelled = (r.spelled.0, r.spelled.1, (a_constant r.spelled.2.0, r.spelled.2.1, ap init.Word r.spelled.2.2));
}

pub no_value : (l : List Token) (p : ℕ) (f : Fault) → is_name (stands l p) ≡ false → FailsAny item.constant l p f → FailsAny item.value l p f
no_value l p f e a = record { there = λ n h. fails_as item.value item.constant n l p f (as_constant l p e) (a.there n h) }

-- initial values

start_at : (l : List Token) (p : ℕ) (b : Bool) → is_fixed fixed.OpenBrace (stands l p) ≡ b → expand item.start (stands l p) (ahead l p) ≡ (if b then Some (item.value ∷ close fixed.CloseBrace ∷ []) else expand item.value (stands l p) (ahead l p))
start_at l p b e = ap (λ (x : Bool). if x then Some (item.value ∷ close fixed.CloseBrace ∷ []) else expand item.value (stands l p) (ahead l p)) e

pub bare_start : (l : List Token) (p q : ℕ) (v : Init) → is_fixed fixed.OpenBrace (stands l p) ≡ false → ReadsAny item.value (SpellsValue v) l p q → Reads item.start 0 (SpellsStart v) l p q
bare_start l p q v e r = record {
  forth = r.forth;
  within = r.within;
  reads = λ s z. alike l p item.start item.value s refl refl (start_at l p false e) ∙ r.reads 0 (omega arith) s z;
  spelled = (r.spelled.0, r.spelled.1, λ x. (bare x r.spelled.2.0, ap (λ (y : List Mark). sign fixed.Assign x ∷ y) r.spelled.2.1, ap Some r.spelled.2.2));
}

pub bare_fails : (l : List Token) (p : ℕ) (f : Fault) → is_fixed fixed.OpenBrace (stands l p) ≡ false → FailsAny item.value l p f → FailsBy item.start 0 l p f
bare_fails l p f e a = fails_as item.start item.value 0 l p f (λ s. alike l p item.start item.value s refl refl (start_at l p false e)) (a.there 0 (omega arith))

pub braced_fails : (l : List Token) (p : ℕ) (f : Fault) → is_fixed fixed.OpenBrace (stands l p) ≡ true → FailsAny item.value l (p + 1) f → FailsBy item.start 0 l p f
braced_fails l p f e a =
    row_failed item.start (item.value ∷ close fixed.CloseBrace ∷ []) 0 l p f (start_at l p true e) (omega arith) (row_here item.value (close fixed.CloseBrace ∷ []) 0 1 l (p + 1) f (omega arith) (a.there 1 (omega arith)))

pub braced_open : (Is : List Mark → Type 0) (l : List Token) (p q : ℕ) → is_fixed fixed.OpenBrace (stands l p) ≡ true → ReadsAny item.value Is l (p + 1) q → is_fixed fixed.CloseBrace (stands l q) ≡ false → FailsBy item.start 0 l p (Unexpected q)
braced_open Is l p q e r c =
    row_failed item.start (item.value ∷ close fixed.CloseBrace ∷ []) 0 l p (Unexpected q) (start_at l p true e) (omega arith) (row_later item.value (close fixed.CloseBrace ∷ []) 0 1 l (p + 1) q (Unexpected q) (omega arith) (r.reads 1 (omega arith)) (row_here (close fixed.CloseBrace) [] 0 0 l q (Unexpected q) (omega arith) (fails_close fixed.CloseBrace 0 l q c)))

pub braced_start : (l : List Token) (p q : ℕ) (v : Init) → is_fixed fixed.OpenBrace (stands l p) ≡ true → ReadsAny item.value (SpellsValue v) l (p + 1) q → is_fixed fixed.CloseBrace (stands l q) ≡ true → Reads item.start 0 (SpellsStart v) l p (q + 1)
braced_start l p q v e r c =
    let way = r.spelled.2.0 in
    let a = r.forth in
    let inside = fixed_inside fixed.CloseBrace l q c in
    let o = offset_at l p in let k = offset_at l q in
    let read : rest l (p + 1) ≡ value_tokens way ++ rest l q = r.spelled.1 ∙ ap (λ (x : List Mark). x ++ rest l q) (sym r.spelled.2.1) in
    record {
      forth = omega arith;
      within = omega arith;
      reads = row_read item.start (item.value ∷ close fixed.CloseBrace ∷ []) 0 l p (q + 1) (start_at l p true e) (omega arith) (row_one item.value (close fixed.CloseBrace ∷ []) 0 1 l (p + 1) q (q + 1) (omega arith) (r.reads 1 (omega arith)) (row_one (close fixed.CloseBrace) [] 0 0 l q (q + 1) (q + 1) (omega arith) (read_close fixed.CloseBrace 0 l q c (omega arith)) (row_none 0 l (q + 1))));
      spelled = (sign fixed.OpenBrace o ∷ (value_tokens way ++ sign fixed.CloseBrace k ∷ []), fixed_mark fixed.OpenBrace l p e ∙ ap (λ (x : List Mark). sign fixed.OpenBrace o ∷ x) (read ∙ ap (λ (x : List Mark). value_tokens way ++ x) (fixed_mark fixed.CloseBrace l q c) ∙ sym (append_assoc (value_tokens way) (sign fixed.CloseBrace k ∷ []) (rest l (q + 1)))), λ x. (braced x o way k, refl, ap Some r.spelled.2.2));
    }

start_part_at : (l : List Token) (p : ℕ) (b : Bool) → is_fixed fixed.Assign (stands l p) ≡ b → expand item.start_part (stands l p) (ahead l p) ≡ when b (item.start ∷ [])
start_part_at l p b e = ap (λ (x : Bool). when x (item.start ∷ [])) e

pub no_start_part : (l : List Token) (p : ℕ) → p ≤ length l → is_fixed fixed.Assign (stands l p) ≡ false → Passes item.start_part 0 (SpellsStartPart None) l p p
no_start_part l p h e = record {
  forth = omega arith;
  within = h;
  reads = λ s z. skips l p item.start_part s (start_part_at l p false e) refl;
  spelled = ([], refl, (no_start, refl, refl));
}

pub start_part_fails : (l : List Token) (p : ℕ) (f : Fault) → is_fixed fixed.Assign (stands l p) ≡ true → FailsBy item.start 0 l (p + 1) f → FailsBy item.start_part 0 l p f
start_part_fails l p f e a =
    row_failed item.start_part (item.start ∷ []) 0 l p f (start_part_at l p true e) (omega arith) (row_here item.start [] 0 0 l (p + 1) f (omega arith) a)

pub reads_start_part : (l : List Token) (p q : ℕ) (v : Init) → is_fixed fixed.Assign (stands l p) ≡ true → Reads item.start 0 (SpellsStart v) l (p + 1) q → Passes item.start_part 0 (SpellsStartPart (Some v)) l p q
reads_start_part l p q v e r =
    let a = r.forth in
    let o = offset_at l p in
    let w = r.spelled.2 o in
    record {
      forth = omega arith;
      within = r.within;
      reads = row_read item.start_part (item.start ∷ []) 0 l p q (start_part_at l p true e) (omega arith) (row_one item.start [] 0 0 l (p + 1) q q (omega arith) r.reads (row_none 0 l q));
      spelled = (sign fixed.Assign o ∷ r.spelled.0, fixed_mark fixed.Assign l p e ∙ ap (λ (x : List Mark). sign fixed.Assign o ∷ x) r.spelled.1, (w.0, w.1, w.2));
    }

-- lengths

pub named_size : (l : List Token) (p x : ℕ) (t : List ℕ) → is_name (stands l p) ≡ true → x ≡ offset_at l p → t ≡ text_at l p → Reads item.size 1 (SpellsSize (size.Word x t)) l p (p + 1)
named_size l p x t e f g =
    let inside = named_inside l p e in
    record {
      forth = omega arith;
      within = omega arith;
      reads = one_token item.size 1 l p (ap (λ (b : Bool). if b then Some [] else number_row (number_of (stands l p))) e) (omega arith);
      spelled = (name_mark (offset_at l p) (text_at l p) ∷ [], named_mark l p e, λ a b. (name_size a (offset_at l p) (text_at l p) b, refl, ap Some (sym (ap (λ (y : ℕ). size.Word y t) f ∙ ap (size.Word (offset_at l p)) g))));
    }

number_at_size : (l : List Token) (p : ℕ) (o : Option ℕ) → is_name (stands l p) ≡ false → number_of (stands l p) ≡ o → expand item.size (stands l p) (ahead l p) ≡ number_row o
number_at_size l p o e f = ap (λ (b : Bool). if b then Some [] else number_row (number_of (stands l p))) e ∙ ap number_row f

pub numbered_size : (l : List Token) (p x w : ℕ) → is_name (stands l p) ≡ false → number_of (stands l p) ≡ Some w → x ≡ offset_at l p → Reads item.size 1 (SpellsSize (size.Number x w)) l p (p + 1)
numbered_size l p x w e g f =
    let k = kind_number (stands l p) w g in
    let inside = numeral_inside l p w k in
    record {
      forth = omega arith;
      within = omega arith;
      reads = one_token item.size 1 l p (number_at_size l p (Some w) e g) (omega arith);
      spelled = (number_mark (offset_at l p) w ∷ [], numeral_mark l p w k, λ a b. (number_size a (offset_at l p) w b, refl, ap Some (sym (ap (λ (y : ℕ). size.Number y w) f))));
    }

pub no_size_here : (l : List Token) (p : ℕ) → is_name (stands l p) ≡ false → number_of (stands l p) ≡ None → FailsBy item.size 1 l p (Unexpected p)
no_size_here l p e g = fails_here item.size 1 l p (number_at_size l p None e g) refl

size_part_at : (l : List Token) (p : ℕ) (b : Bool) → is_fixed fixed.OpenBracket (stands l p) ≡ b → expand item.size_part (stands l p) (ahead l p) ≡ when b (item.size ∷ close fixed.CloseBracket ∷ [])
size_part_at l p b e = ap (λ (x : Bool). when x (item.size ∷ close fixed.CloseBracket ∷ [])) e

pub no_size_part : (l : List Token) (p : ℕ) → p ≤ length l → is_fixed fixed.OpenBracket (stands l p) ≡ false → Passes item.size_part 0 (SpellsSizePart None) l p p
no_size_part l p h e = record {
  forth = omega arith;
  within = h;
  reads = λ s z. skips l p item.size_part s (size_part_at l p false e) refl;
  spelled = ([], refl, (no_size, refl, refl));
}

pub size_part_fails : (l : List Token) (p : ℕ) (f : Fault) → is_fixed fixed.OpenBracket (stands l p) ≡ true → FailsBy item.size 1 l (p + 1) f → FailsBy item.size_part 0 l p f
size_part_fails l p f e a =
    row_failed item.size_part (item.size ∷ close fixed.CloseBracket ∷ []) 0 l p f (size_part_at l p true e) (omega arith) (row_here item.size (close fixed.CloseBracket ∷ []) 0 1 l (p + 1) f (omega arith) a)

pub size_part_open : (Is : List Mark → Type 0) (l : List Token) (p q : ℕ) → is_fixed fixed.OpenBracket (stands l p) ≡ true → Reads item.size 1 Is l (p + 1) q → is_fixed fixed.CloseBracket (stands l q) ≡ false → FailsBy item.size_part 0 l p (Unexpected q)
size_part_open Is l p q e r c =
    row_failed item.size_part (item.size ∷ close fixed.CloseBracket ∷ []) 0 l p (Unexpected q) (size_part_at l p true e) (omega arith) (row_later item.size (close fixed.CloseBracket ∷ []) 0 1 l (p + 1) q (Unexpected q) (omega arith) r.reads (row_here (close fixed.CloseBracket) [] 0 0 l q (Unexpected q) (omega arith) (fails_close fixed.CloseBracket 0 l q c)))

pub reads_size_part : (l : List Token) (p q : ℕ) (v : Length) → is_fixed fixed.OpenBracket (stands l p) ≡ true → Reads item.size 1 (SpellsSize v) l (p + 1) q → is_fixed fixed.CloseBracket (stands l q) ≡ true → Passes item.size_part 0 (SpellsSizePart (Some v)) l p (q + 1)
reads_size_part l p q v e r c =
    let a = r.forth in
    let inside = fixed_inside fixed.CloseBracket l q c in
    let o = offset_at l p in let k = offset_at l q in
    let w = r.spelled.2 o k in
    record {
      forth = omega arith;
      within = omega arith;
      reads = row_read item.size_part (item.size ∷ close fixed.CloseBracket ∷ []) 0 l p (q + 1) (size_part_at l p true e) (omega arith) (row_one item.size (close fixed.CloseBracket ∷ []) 0 1 l (p + 1) q (q + 1) (omega arith) r.reads (row_one (close fixed.CloseBracket) [] 0 0 l q (q + 1) (q + 1) (omega arith) (read_close fixed.CloseBracket 0 l q c (omega arith)) (row_none 0 l (q + 1))));
      spelled = (sign fixed.OpenBracket o ∷ (r.spelled.0 ++ sign fixed.CloseBracket k ∷ []), fixed_mark fixed.OpenBracket l p e ∙ ap (λ (x : List Mark). sign fixed.OpenBracket o ∷ x) (r.spelled.1 ∙ ap (λ (x : List Mark). r.spelled.0 ++ x) (fixed_mark fixed.CloseBracket l q c) ∙ sym (append_assoc r.spelled.0 (sign fixed.CloseBracket k ∷ []) (rest l (q + 1)))), (w.0, w.1, w.2));
    }

-- definitions

define_at : (l : List Token) (p : ℕ) (d : Declared) → declared_of (stands l p) ≡ d → expand item.decl (stands l p) (ahead l p) ≡ decl_row d
define_at l p d e = ap decl_row e

pub no_decl : (l : List Token) (p : ℕ) → declared_of (stands l p) ≡ declared.Other → FailsBy item.decl 0 l p (Unexpected p)
no_decl l p e = fails_here item.decl 0 l p (define_at l p declared.Other e) refl

pub no_define : (l : List Token) (p : ℕ) → declared_of (stands l p) ≡ declared.Define → is_fixed fixed.Define (stands l (p + 1)) ≡ false → FailsBy item.decl 0 l p (Unexpected (p + 1))
no_define l p e a =
    row_failed item.decl (term fixed.Define ∷ item.a_name ∷ item.constant ∷ []) 0 l p (Unexpected (p + 1)) (define_at l p declared.Define e) (omega arith) (row_here (term fixed.Define) (item.a_name ∷ item.constant ∷ []) 0 0 l (p + 1) (Unexpected (p + 1)) (omega arith) (fails_term fixed.Define 0 l (p + 1) a))

define_to : (l : List Token) (p : ℕ) → is_fixed fixed.Define (stands l (p + 1)) ≡ true → Step (term fixed.Define) 0 l (p + 1) (p + 2)
define_to l p a = step_to (term fixed.Define) 0 l (p + 1) (p + 1 + 1) (p + 2) (omega arith) (read_term fixed.Define 0 l (p + 1) a (omega arith))

pub no_define_name : (l : List Token) (p : ℕ) → declared_of (stands l p) ≡ declared.Define → is_fixed fixed.Define (stands l (p + 1)) ≡ true → is_name (stands l (p + 2)) ≡ false → FailsBy item.decl 0 l p (Unexpected (p + 2))
no_define_name l p e a b =
    row_failed item.decl (term fixed.Define ∷ item.a_name ∷ item.constant ∷ []) 0 l p (Unexpected (p + 2)) (define_at l p declared.Define e) (omega arith) (row_later (term fixed.Define) (item.a_name ∷ item.constant ∷ []) 0 0 l (p + 1) (p + 2) (Unexpected (p + 2)) (omega arith) (define_to l p a) (row_here item.a_name (item.constant ∷ []) 0 0 l (p + 2) (Unexpected (p + 2)) (omega arith) (fails_name 0 l (p + 2) b)))

name_to : (l : List Token) (p : ℕ) → is_name (stands l (p + 2)) ≡ true → Step item.a_name 0 l (p + 2) (p + 3)
name_to l p b = step_to item.a_name 0 l (p + 2) (p + 2 + 1) (p + 3) (omega arith) (read_name 0 l (p + 2) b (omega arith))

pub define_constant : (l : List Token) (p : ℕ) (f : Fault) → declared_of (stands l p) ≡ declared.Define → is_fixed fixed.Define (stands l (p + 1)) ≡ true → is_name (stands l (p + 2)) ≡ true → FailsAny item.constant l (p + 3) f → FailsBy item.decl 0 l p f
define_constant l p f e a b c =
    row_failed item.decl (term fixed.Define ∷ item.a_name ∷ item.constant ∷ []) 0 l p f (define_at l p declared.Define e) (omega arith) (row_later (term fixed.Define) (item.a_name ∷ item.constant ∷ []) 0 0 l (p + 1) (p + 2) f (omega arith) (define_to l p a) (row_later item.a_name (item.constant ∷ []) 0 0 l (p + 2) (p + 3) f (omega arith) (name_to l p b) (row_here item.constant [] 0 0 l (p + 3) f (omega arith) (c.there 0 (omega arith)))))

pub reads_define : (l : List Token) (p q x w : ℕ) (t : List ℕ) → declared_of (stands l p) ≡ declared.Define → is_fixed fixed.Define (stands l (p + 1)) ≡ true → is_name (stands l (p + 2)) ≡ true → ReadsAny item.constant (SpellsConstant w) l (p + 3) q → x ≡ offset_at l (p + 2) → t ≡ text_at l (p + 2) → Reads item.decl 0 (SpellsDecl (head.Define x t w)) l p q
reads_define l p q x w t e a b c f g =
    let way = c.spelled.2.0 in
    let h = c.forth in
    let o = offset_at l p in let d = offset_at l (p + 1) in let n = name_mark (offset_at l (p + 2)) (text_at l (p + 2)) in
    let second = mark_to (sign fixed.Define d) l (p + 1) (p + 1 + 1) (p + 2) (omega arith) (fixed_mark fixed.Define l (p + 1) a) in
    let third = mark_to n l (p + 2) (p + 2 + 1) (p + 3) (omega arith) (named_mark l (p + 2) b) in
    let read : rest l (p + 3) ≡ constant_tokens way ++ rest l q = c.spelled.1 ∙ ap (λ (y : List Mark). y ++ rest l q) (sym c.spelled.2.1) in
    record {
      forth = omega arith;
      within = c.within;
      reads = row_read item.decl (term fixed.Define ∷ item.a_name ∷ item.constant ∷ []) 0 l p q (define_at l p declared.Define e) (omega arith) (row_one (term fixed.Define) (item.a_name ∷ item.constant ∷ []) 0 0 l (p + 1) (p + 2) q (omega arith) (define_to l p a) (row_one item.a_name (item.constant ∷ []) 0 0 l (p + 2) (p + 3) q (omega arith) (name_to l p b) (row_one item.constant [] 0 0 l (p + 3) q q (omega arith) (c.reads 0 (omega arith)) (row_none 0 l q))));
      spelled = (sign fixed.Hash o ∷ sign fixed.Define d ∷ n ∷ constant_tokens way, sign_mark fixed.Hash l p (declared_define (stands l p) e) ∙ ap (λ (y : List Mark). sign fixed.Hash o ∷ y) (second ∙ ap (λ (y : List Mark). sign fixed.Define d ∷ y) (third ∙ ap (λ (y : List Mark). n ∷ y) read)), (a_define o d (offset_at l (p + 2)) (text_at l (p + 2)) way, refl, ap (λ (y : ℕ). head.Define y (text_at l (p + 2)) (constant_word way)) (sym f) ∙ ap (λ (y : List ℕ). head.Define x y (constant_word way)) (sym g) ∙ ap (head.Define x t) c.spelled.2.2));
    }

-- globals

pub no_global_name : (l : List Token) (p : ℕ) → declared_of (stands l p) ≡ declared.Global → is_name (stands l (p + 1)) ≡ false → FailsBy item.decl 0 l p (Unexpected (p + 1))
no_global_name l p e a =
    row_failed item.decl (item.a_name ∷ item.size_part ∷ item.start_part ∷ term fixed.Semi ∷ []) 0 l p (Unexpected (p + 1)) (define_at l p declared.Global e) (omega arith) (row_here item.a_name (item.size_part ∷ item.start_part ∷ term fixed.Semi ∷ []) 0 0 l (p + 1) (Unexpected (p + 1)) (omega arith) (fails_name 0 l (p + 1) a))

global_to : (l : List Token) (p : ℕ) → is_name (stands l (p + 1)) ≡ true → Step item.a_name 0 l (p + 1) (p + 2)
global_to l p a = step_to item.a_name 0 l (p + 1) (p + 1 + 1) (p + 2) (omega arith) (read_name 0 l (p + 1) a (omega arith))

pub global_size : (l : List Token) (p : ℕ) (f : Fault) → declared_of (stands l p) ≡ declared.Global → is_name (stands l (p + 1)) ≡ true → FailsBy item.size_part 0 l (p + 2) f → FailsBy item.decl 0 l p f
global_size l p f e a b =
    row_failed item.decl (item.a_name ∷ item.size_part ∷ item.start_part ∷ term fixed.Semi ∷ []) 0 l p f (define_at l p declared.Global e) (omega arith) (row_later item.a_name (item.size_part ∷ item.start_part ∷ term fixed.Semi ∷ []) 0 0 l (p + 1) (p + 2) f (omega arith) (global_to l p a) (row_here item.size_part (item.start_part ∷ term fixed.Semi ∷ []) 0 0 l (p + 2) f (omega arith) b))

pub global_start : (Is : List Mark → Type 0) (l : List Token) (p q : ℕ) (f : Fault) → declared_of (stands l p) ≡ declared.Global → is_name (stands l (p + 1)) ≡ true → Passes item.size_part 0 Is l (p + 2) q → FailsBy item.start_part 0 l q f → FailsBy item.decl 0 l p f
global_start Is l p q f e a r b =
    row_failed item.decl (item.a_name ∷ item.size_part ∷ item.start_part ∷ term fixed.Semi ∷ []) 0 l p f (define_at l p declared.Global e) (omega arith) (row_later item.a_name (item.size_part ∷ item.start_part ∷ term fixed.Semi ∷ []) 0 0 l (p + 1) (p + 2) f (omega arith) (global_to l p a) (row_later item.size_part (item.start_part ∷ term fixed.Semi ∷ []) 0 0 l (p + 2) q f (omega arith) r.reads (row_here item.start_part (term fixed.Semi ∷ []) 0 0 l q f (omega arith) b)))

pub global_semi : (Is Js : List Mark → Type 0) (l : List Token) (p q u : ℕ) → declared_of (stands l p) ≡ declared.Global → is_name (stands l (p + 1)) ≡ true → Passes item.size_part 0 Is l (p + 2) q → Passes item.start_part 0 Js l q u → is_fixed fixed.Semi (stands l u) ≡ false → FailsBy item.decl 0 l p (Unexpected u)
global_semi Is Js l p q u e a r v c =
    row_failed item.decl (item.a_name ∷ item.size_part ∷ item.start_part ∷ term fixed.Semi ∷ []) 0 l p (Unexpected u) (define_at l p declared.Global e) (omega arith) (row_later item.a_name (item.size_part ∷ item.start_part ∷ term fixed.Semi ∷ []) 0 0 l (p + 1) (p + 2) (Unexpected u) (omega arith) (global_to l p a) (row_later item.size_part (item.start_part ∷ term fixed.Semi ∷ []) 0 0 l (p + 2) q (Unexpected u) (omega arith) r.reads (row_later item.start_part (term fixed.Semi ∷ []) 0 0 l q u (Unexpected u) (omega arith) v.reads (row_here (term fixed.Semi) [] 0 0 l u (Unexpected u) (omega arith) (fails_term fixed.Semi 0 l u c)))))

pub reads_global : (l : List Token) (p q u x : ℕ) (t : List ℕ) (z : Option Length) (v : Option Init) → declared_of (stands l p) ≡ declared.Global → is_name (stands l (p + 1)) ≡ true → Passes item.size_part 0 (SpellsSizePart z) l (p + 2) q → Passes item.start_part 0 (SpellsStartPart v) l q u → is_fixed fixed.Semi (stands l u) ≡ true → x ≡ offset_at l (p + 1) → t ≡ text_at l (p + 1) → Reads item.decl 0 (SpellsDecl (head.Global x t z v)) l p (u + 1)
reads_global l p q u x t z v e a r k c f g =
    let size_way = r.spelled.2.0 in let start_way = k.spelled.2.0 in
    let h = r.forth in let j = k.forth in
    let inside = fixed_inside fixed.Semi l u c in
    let o = offset_at l p in let y = offset_at l u in let n = name_mark (offset_at l (p + 1)) (text_at l (p + 1)) in
    let second = mark_to n l (p + 1) (p + 1 + 1) (p + 2) (omega arith) (named_mark l (p + 1) a) in
    let read_size : rest l (p + 2) ≡ size_tokens size_way ++ rest l q = r.spelled.1 ∙ ap (λ (b : List Mark). b ++ rest l q) (sym r.spelled.2.1) in
    let read_start : rest l q ≡ start_tokens start_way ++ rest l u = k.spelled.1 ∙ ap (λ (b : List Mark). b ++ rest l u) (sym k.spelled.2.1) in
    let tail : rest l q ≡ (start_tokens start_way ++ sign fixed.Semi y ∷ []) ++ rest l (u + 1) = read_start ∙ ap (λ (b : List Mark). start_tokens start_way ++ b) (fixed_mark fixed.Semi l u c) ∙ sym (append_assoc (start_tokens start_way) (sign fixed.Semi y ∷ []) (rest l (u + 1))) in
    let both : rest l (p + 2) ≡ (size_tokens size_way ++ (start_tokens start_way ++ sign fixed.Semi y ∷ [])) ++ rest l (u + 1) = read_size ∙ ap (λ (b : List Mark). size_tokens size_way ++ b) tail ∙ sym (append_assoc (size_tokens size_way) (start_tokens start_way ++ sign fixed.Semi y ∷ []) (rest l (u + 1))) in
    record {
      forth = omega arith;
      within = omega arith;
      reads = row_read item.decl (item.a_name ∷ item.size_part ∷ item.start_part ∷ term fixed.Semi ∷ []) 0 l p (u + 1) (define_at l p declared.Global e) (omega arith) (row_one item.a_name (item.size_part ∷ item.start_part ∷ term fixed.Semi ∷ []) 0 0 l (p + 1) (p + 2) (u + 1) (omega arith) (global_to l p a) (row_one item.size_part (item.start_part ∷ term fixed.Semi ∷ []) 0 0 l (p + 2) q (u + 1) (omega arith) r.reads (row_one item.start_part (term fixed.Semi ∷ []) 0 0 l q u (u + 1) (omega arith) k.reads (row_one (term fixed.Semi) [] 0 0 l u (u + 1) (u + 1) (omega arith) (read_term fixed.Semi 0 l u c (omega arith)) (row_none 0 l (u + 1))))));
      spelled = (sign fixed.Int o ∷ n ∷ (size_tokens size_way ++ (start_tokens start_way ++ sign fixed.Semi y ∷ [])), sign_mark fixed.Int l p (declared_global (stands l p) e) ∙ ap (λ (b : List Mark). sign fixed.Int o ∷ b) (second ∙ ap (λ (b : List Mark). n ∷ b) both), (a_global (record { int_at = o; name_at = offset_at l (p + 1); name = text_at l (p + 1); semi_at = y }) size_way start_way, refl, ap (λ (b : ℕ). head.Global b (text_at l (p + 1)) (size_tree size_way) (start_tree start_way)) (sym f) ∙ ap (λ (b : List ℕ). head.Global x b (size_tree size_way) (start_tree start_way)) (sym g) ∙ ap (λ (b : Option Length). head.Global x t b (start_tree start_way)) r.spelled.2.2 ∙ ap (head.Global x t z) k.spelled.2.2));
    }

-- several

pub decls_start : (l : List Token) (p : ℕ) (before : List Head) → p ≤ length l → DeclsSoFar l p p before before
decls_start l p before h = record { forth = omega arith; within = h; reads = λ s z. refl; spelled = λ q tail e. (q, e, refl) }

declared_row : (d : Declared) → declares d ≡ true → (row : List Item) × (decl_row d ≡ Some row)
declared_row declared.Define e = (term fixed.Define ∷ item.a_name ∷ item.constant ∷ [], refl)
declared_row declared.Global e = (item.a_name ∷ item.size_part ∷ item.start_part ∷ term fixed.Semi ∷ [], refl)
declared_row declared.Other e = absurd (cc)

no_row : (d : Declared) → declares d ≡ false → decl_row d ≡ None
no_row declared.Define e = absurd (cc)
no_row declared.Global e = absurd (cc)
no_row declared.Other e = refl

one_decl : (l : List Token) (p : ℕ) → declares (declared_of (stands l p)) ≡ true → (s : List Item) → fault_from l p (item.decls ∷ s) ≡ fault_from l p (item.decl ∷ item.decls ∷ s)
one_decl l p e s = let b = declared_row (declared_of (stands l p)) e in first_of l p item.decls item.decl (item.decls ∷ []) b.0 s refl b.1

pub decls_next : (l : List Token) (p next after : ℕ) (before done all : List Head) (h : Head) → DeclsSoFar l p next before done → declares (declared_of (stands l next)) ≡ true → Reads item.decl 0 (SpellsDecl h) l next after → all ≡ done ++ h ∷ [] → DeclsSoFar l p after before all
decls_next l p next after before done all h m e r is =
    let a = m.forth in let b = r.forth in
    let way = r.spelled.2.0 in
    let read : rest l next ≡ decl_tokens way ++ rest l after = r.spelled.1 ∙ ap (λ (y : List Mark). y ++ rest l after) (sym r.spelled.2.1) in
    record {
      forth = omega arith;
      within = r.within;
      reads = λ s z. m.reads s z ∙ one_decl l next e s ∙ r.reads (item.decls ∷ s) z;
      spelled = λ q tail eq.
          let w = m.spelled (then_decl way q) tail (read ∙ ap (λ (y : List Mark). decl_tokens way ++ y) eq ∙ sym (append_assoc (decl_tokens way) (decls_tokens q) tail)) in
          (w.0, w.1, w.2 ∙ ap (λ (y : Head). done ++ y ∷ decls_trees q) r.spelled.2.2 ∙ sym (append_assoc done (h ∷ []) (decls_trees q)) ∙ ap (λ (y : List Head). y ++ decls_trees q) (sym is));
    }

pub decl_fails : (l : List Token) (p next : ℕ) (before done : List Head) (f : Fault) → DeclsSoFar l p next before done → declares (declared_of (stands l next)) ≡ true → FailsBy item.decl 0 l next f → FailsBy item.decls 0 l p f
decl_fails l p next before done (Unexpected q) m e a = record { there = λ s z. m.reads s z ∙ one_decl l next e s ∙ a.there (item.decls ∷ s) z }
decl_fails l p next before done (TooNested q) m e a = record { there = λ s z. m.reads s z ∙ one_decl l next e s ∙ a.there (item.decls ∷ s) z }
decl_fails l p next before done Memory m e a = tt

pub reads_decls : (l : List Token) (p next : ℕ) (before all : List Head) → DeclsSoFar l p next before all → declares (declared_of (stands l next)) ≡ false → ReadsDecls l p next before all
reads_decls l p next before all m e =
    let w = m.spelled no_decls (rest l next) refl in
    record {
      forth = m.forth;
      within = m.within;
      reads = λ s z. m.reads s z ∙ skips l next item.decls s (ap (λ (r : Option (List Item)). then_row r (item.decls ∷ [])) (no_row (declared_of (stands l next)) e)) refl;
      spelled = (w.0, w.1, w.2 ∙ append-nil all);
    }
