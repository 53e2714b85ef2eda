-- What the functions on the struct and on transactions read.
use Rattle.std.proofs.Common.{◌≡◌, ℕ, suc, ◌+◌, ◌≤◌, Bool, true, false, List, [], ◌∷◌, ◌++◌, refl, sym, ap, ◌∙◌, arith, append_assoc}
use Rattle.std.proofs.lemmas.List.{append-nil}
use Rattle.dom_lexer.specs.declared.token.Token.{Token}
use Rattle.dom_ast.specs.declared.program.Head.TheVariants as head
use Rattle.dom_parser.specs.declared.faults.Fault.{Fault}
use Rattle.dom_parser.specs.declared.faults.Fault.TheVariants.{Unexpected, TooNested, Memory}
use Rattle.dom_parser.specs.declared.kinds.Fixed.TheVariants as fixed
use Rattle.dom_parser.specs.Tokens.{Mark, stands, offset_at, ahead}
use Rattle.dom_parser.specs.inner.AtPlace.{rest, text_at, is_fixed, is_name}
use Rattle.dom_parser.specs.Grammar.{sign, name_mark, fields_tokens, fields_trees, struct_tokens, Structure}
use Rattle.dom_parser.specs.inner.Following as item
use Rattle.dom_parser.specs.inner.Following.{Item, term, close, ended, when, expand, may_skip, held, limit, bad, deep, fault_from}
use Rattle.dom_parser.specs.inner.Reads.{FailsBy, Step, Reads}
use Rattle.dom_parser.specs.inner.HeadReads.{ReadsField, FailsField, ReadsFields, SpellsStruct}
use Rattle.dom_parser.proofs.SoFar.{FieldsSoFar}
use Rattle.dom_parser.proofs.Steps.{skips, fails, takes, row_none, row_one, row_here, row_later, row_read, row_failed, fails_here, read_term, read_name, read_close, fails_term, fails_name, fixed_mark, fixed_inside, named_mark}
use Rattle.dom_parser.proofs.HeadParts.{step_to, mark_to}

-- one field

pub field_name : (l : List Token) (p : ℕ) → is_name (stands l (p + 1)) ≡ false → FailsField l p (Unexpected (p + 1))
field_name l p e = record { there = λ s h. fails l (p + 1) item.a_name (term fixed.Semi ∷ s) (ap (λ (b : Bool). when b []) e) refl }

named_then : (l : List Token) (p : ℕ) → is_name (stands l (p + 1)) ≡ true → (s : List Item) → held s ≤ limit → fault_from l (p + 1) (item.a_name ∷ term fixed.Semi ∷ s) ≡ fault_from l (p + 2) (term fixed.Semi ∷ s)
named_then l p e s h = step_to item.a_name (held s) l (p + 1) (p + 1 + 1) (p + 2) (omega arith) (read_name (held s) l (p + 1) e h) (term fixed.Semi ∷ s) refl

pub field_semi : (l : List Token) (p : ℕ) → is_name (stands l (p + 1)) ≡ true → is_fixed fixed.Semi (stands l (p + 2)) ≡ false → FailsField l p (Unexpected (p + 2))
field_semi l p e f = record { there = λ s h. named_then l p e s h ∙ fails l (p + 2) (term fixed.Semi) s (ap (λ (b : Bool). when b []) f) refl }

pub reads_field : (l : List Token) (p x : ℕ) (t : List ℕ) → is_fixed fixed.Int (stands l p) ≡ true → is_name (stands l (p + 1)) ≡ true → is_fixed fixed.Semi (stands l (p + 2)) ≡ true → x ≡ offset_at l (p + 1) → t ≡ text_at l (p + 1) → ReadsField l p x t
reads_field l p x t i e f g h =
    let inside = fixed_inside fixed.Semi l (p + 2) f in
    let o = offset_at l p in let c = offset_at l (p + 2) in
    let second = mark_to (name_mark (offset_at l (p + 1)) (text_at l (p + 1))) l (p + 1) (p + 1 + 1) (p + 2) (omega arith) (named_mark l (p + 1) e) in
    let third = mark_to (sign fixed.Semi c) l (p + 2) (p + 2 + 1) (p + 3) (omega arith) (fixed_mark fixed.Semi l (p + 2) f) in
    let all : rest l p ≡ sign fixed.Int o ∷ name_mark (offset_at l (p + 1)) (text_at l (p + 1)) ∷ sign fixed.Semi c ∷ rest l (p + 3) = fixed_mark fixed.Int l p i ∙ ap (λ (y : List Mark). sign fixed.Int o ∷ y) (second ∙ ap (λ (y : List Mark). name_mark (offset_at l (p + 1)) (text_at l (p + 1)) ∷ y) third) in
    record {
      within = omega arith;
      reads = λ s z. named_then l p e s z ∙ step_to (term fixed.Semi) (held s) l (p + 2) (p + 2 + 1) (p + 3) (omega arith) (read_term fixed.Semi (held s) l (p + 2) f z) s refl;
      spelled = (o, c, all ∙ ap (λ (y : ℕ). sign fixed.Int o ∷ name_mark y (text_at l (p + 1)) ∷ sign fixed.Semi c ∷ rest l (p + 3)) (sym g) ∙ ap (λ (y : List ℕ). sign fixed.Int o ∷ name_mark x y ∷ sign fixed.Semi c ∷ rest l (p + 3)) (sym h));
    }

-- fields in braces

brace_at : (l : List Token) (p : ℕ) (b : Bool) → is_fixed fixed.OpenBrace (stands l p) ≡ b → expand item.field_block (stands l p) (ahead l p) ≡ when b (term fixed.Int ∷ item.a_name ∷ term fixed.Semi ∷ item.fields ∷ close fixed.CloseBrace ∷ [])
brace_at l p b e = ap (λ (x : Bool). when x (term fixed.Int ∷ item.a_name ∷ term fixed.Semi ∷ item.fields ∷ close fixed.CloseBrace ∷ [])) e

pub no_brace : (l : List Token) (p : ℕ) → is_fixed fixed.OpenBrace (stands l p) ≡ false → FailsBy item.field_block 0 l p (Unexpected p)
no_brace l p e = fails_here item.field_block 0 l p (brace_at l p false e) refl

pub no_int : (l : List Token) (p : ℕ) → is_fixed fixed.OpenBrace (stands l p) ≡ true → is_fixed fixed.Int (stands l (p + 1)) ≡ false → FailsBy item.field_block 0 l p (Unexpected (p + 1))
no_int l p e f =
    row_failed item.field_block (term fixed.Int ∷ item.a_name ∷ term fixed.Semi ∷ item.fields ∷ close fixed.CloseBrace ∷ []) 0 l p (Unexpected (p + 1)) (brace_at l p true e) (omega arith) (row_here (term fixed.Int) (item.a_name ∷ term fixed.Semi ∷ item.fields ∷ close fixed.CloseBrace ∷ []) 0 1 l (p + 1) (Unexpected (p + 1)) (omega arith) (fails_term fixed.Int 1 l (p + 1) f))

-- up to the first field's name
to_first : (l : List Token) (p : ℕ) → is_fixed fixed.OpenBrace (stands l p) ≡ true → is_fixed fixed.Int (stands l (p + 1)) ≡ true → (s : List Item) → held s ≡ 0 → fault_from l p (item.field_block ∷ s) ≡ fault_from l (p + 1 + 1) (item.a_name ∷ term fixed.Semi ∷ item.fields ∷ close fixed.CloseBrace ∷ s)
to_first l p e f s z =
    takes l p item.field_block (term fixed.Int ∷ item.a_name ∷ term fixed.Semi ∷ item.fields ∷ close fixed.CloseBrace ∷ []) s (brace_at l p true e) (omega arith) ∙ read_term fixed.Int (suc (held s)) l (p + 1) f (omega arith) (item.a_name ∷ term fixed.Semi ∷ item.fields ∷ close fixed.CloseBrace ∷ s) refl

pub first_fails : (l : List Token) (p : ℕ) (x : Fault) → is_fixed fixed.OpenBrace (stands l p) ≡ true → is_fixed fixed.Int (stands l (p + 1)) ≡ true → FailsField l (p + 1) x → FailsBy item.field_block 0 l p x
first_fails l p (Unexpected q) e f a = record { there = λ s z. to_first l p e f s z ∙ a.there (item.fields ∷ close fixed.CloseBrace ∷ s) (omega arith) }
first_fails l p (TooNested q) e f a = record { there = λ s z. to_first l p e f s z ∙ a.there (item.fields ∷ close fixed.CloseBrace ∷ s) (omega arith) }
first_fails l p Memory e f a = tt

pub fields_start : (l : List Token) (p q : ℕ) (n : List ℕ) → is_fixed fixed.OpenBrace (stands l p) ≡ true → is_fixed fixed.Int (stands l (p + 1)) ≡ true → ReadsField l (p + 1) q n → FieldsSoFar l p (p + 4) ((q, n) ∷ [])
fields_start l p q n e f r =
    let a = r.within in
    let four : p + 1 + 3 ≡ p + 4 = omega arith in
    let o = offset_at l p in
    record {
      forth = omega arith;
      within = omega arith;
      reads = λ s z. to_first l p e f s z ∙ r.reads (item.fields ∷ close fixed.CloseBrace ∷ s) (omega arith) ∙ ap (λ (k : ℕ). fault_from l k (item.fields ∷ close fixed.CloseBrace ∷ s)) four;
      spelled = λ g tail eq. (o, record { int_at = r.spelled.0; name_at = q; name = n; semi_at = r.spelled.1 }, g, fixed_mark fixed.OpenBrace l p e ∙ ap (λ (y : List Mark). sign fixed.OpenBrace o ∷ y) (r.spelled.2 ∙ ap (λ (y : List Mark). sign fixed.Int r.spelled.0 ∷ name_mark q n ∷ sign fixed.Semi r.spelled.1 ∷ y) (ap (rest l) four ∙ eq)), refl);
    }

fields_at : (l : List Token) (p : ℕ) (b : Bool) → is_fixed fixed.Int (stands l p) ≡ b → expand item.fields (stands l p) (ahead l p) ≡ when b (item.a_name ∷ term fixed.Semi ∷ item.fields ∷ [])
fields_at l p b e = ap (λ (x : Bool). when x (item.a_name ∷ term fixed.Semi ∷ item.fields ∷ [])) e

next_field : (l : List Token) (p : ℕ) → is_fixed fixed.Int (stands l p) ≡ true → (s : List Item) → held s ≡ 0 → fault_from l p (item.fields ∷ close fixed.CloseBrace ∷ s) ≡ fault_from l (p + 1) (item.a_name ∷ term fixed.Semi ∷ item.fields ∷ close fixed.CloseBrace ∷ s)
next_field l p e s z = takes l p item.fields (item.a_name ∷ term fixed.Semi ∷ item.fields ∷ []) (close fixed.CloseBrace ∷ s) (fields_at l p true e) (omega arith)

pub fields_next : (l : List Token) (p next q : ℕ) (n : List ℕ) (done all : List (ℕ × List ℕ)) → FieldsSoFar l p next done → is_fixed fixed.Int (stands l next) ≡ true → ReadsField l next q n → all ≡ done ++ (q, n) ∷ [] → FieldsSoFar l p (next + 3) all
fields_next l p next q n done all m e r is =
    let a = r.within in let b = m.forth in
    record {
      forth = omega arith;
      within = r.within;
      reads = λ s z. m.reads s z ∙ next_field l next e s z ∙ r.reads (item.fields ∷ close fixed.CloseBrace ∷ s) (omega arith);
      spelled = λ g tail eq.
          let w = m.spelled (record { int_at = r.spelled.0; name_at = q; name = n; semi_at = r.spelled.1 } ∷ g) tail (r.spelled.2 ∙ ap (λ (y : List Mark). sign fixed.Int r.spelled.0 ∷ name_mark q n ∷ sign fixed.Semi r.spelled.1 ∷ y) eq) in
          (w.0, w.1, w.2, w.3, w.4 ∙ sym (append_assoc done ((q, n) ∷ []) (fields_trees g)) ∙ ap (λ (y : List (ℕ × List ℕ)). y ++ fields_trees g) (sym is));
    }

pub fields_fail : (l : List Token) (p next : ℕ) (done : List (ℕ × List ℕ)) (x : Fault) → FieldsSoFar l p next done → is_fixed fixed.Int (stands l next) ≡ true → FailsField l next x → FailsBy item.field_block 0 l p x
fields_fail l p next done (Unexpected q) m e a = record { there = λ s z. m.reads s z ∙ next_field l next e s z ∙ a.there (item.fields ∷ close fixed.CloseBrace ∷ s) (omega arith) }
fields_fail l p next done (TooNested q) m e a = record { there = λ s z. m.reads s z ∙ next_field l next e s z ∙ a.there (item.fields ∷ close fixed.CloseBrace ∷ s) (omega arith) }
fields_fail l p next done Memory m e a = tt

pub fields_open : (l : List Token) (p next : ℕ) (done : List (ℕ × List ℕ)) → FieldsSoFar l p next done → is_fixed fixed.Int (stands l next) ≡ false → is_fixed fixed.CloseBrace (stands l next) ≡ false → FailsBy item.field_block 0 l p (Unexpected next)
fields_open l p next done m e c = record {
  there = λ s z. m.reads s z ∙ skips l next item.fields (close fixed.CloseBrace ∷ s) (fields_at l next false e) refl ∙ fails l next (close fixed.CloseBrace) s (ap (λ (b : Bool). when b (ended ∷ [])) c) refl;
}

pub reads_fields : (l : List Token) (p next : ℕ) (fs : List (ℕ × List ℕ)) → FieldsSoFar l p next fs → is_fixed fixed.Int (stands l next) ≡ false → is_fixed fixed.CloseBrace (stands l next) ≡ true → ReadsFields l p (next + 1) fs
reads_fields l p next fs m e c =
    let a = m.forth in
    let inside = fixed_inside fixed.CloseBrace l next c in
    let w = m.spelled [] (rest l next) refl in
    record {
      forth = omega arith;
      within = omega arith;
      reads = λ s z. m.reads s z ∙ skips l next item.fields (close fixed.CloseBrace ∷ s) (fields_at l next false e) refl ∙ read_close fixed.CloseBrace 0 l next c (omega arith) s z;
      spelled = (w.0, w.1, w.2, offset_at l next, w.3 ∙ ap (λ (y : List Mark). sign fixed.OpenBrace w.0 ∷ (fields_tokens (w.1 ∷ w.2) ++ y)) (fixed_mark fixed.CloseBrace l next c), w.4 ∙ append-nil fs);
    }

-- the struct

struct_at : (l : List Token) (p : ℕ) (b : Bool) → is_fixed fixed.Struct (stands l p) ≡ b → expand item.structure (stands l p) (ahead l p) ≡ when b (item.a_name ∷ item.field_block ∷ term fixed.Semi ∷ [])
struct_at l p b e = ap (λ (x : Bool). when x (item.a_name ∷ item.field_block ∷ term fixed.Semi ∷ [])) e

pub no_struct : (l : List Token) (p : ℕ) → is_fixed fixed.Struct (stands l p) ≡ false → FailsBy item.structure 0 l p (Unexpected p)
no_struct l p e = fails_here item.structure 0 l p (struct_at l p false e) refl

pub struct_name : (l : List Token) (p : ℕ) → is_fixed fixed.Struct (stands l p) ≡ true → is_name (stands l (p + 1)) ≡ false → FailsBy item.structure 0 l p (Unexpected (p + 1))
struct_name l p e f =
    row_failed item.structure (item.a_name ∷ item.field_block ∷ term fixed.Semi ∷ []) 0 l p (Unexpected (p + 1)) (struct_at l p true e) (omega arith) (row_here item.a_name (item.field_block ∷ term fixed.Semi ∷ []) 0 0 l (p + 1) (Unexpected (p + 1)) (omega arith) (fails_name 0 l (p + 1) f))

struct_to : (l : List Token) (p : ℕ) → is_name (stands l (p + 1)) ≡ true → Step item.a_name 0 l (p + 1) (p + 2)
struct_to l p a = step_to item.a_name 0 l (p + 1) (p + 1 + 1) (p + 2) (omega arith) (read_name 0 l (p + 1) a (omega arith))

pub struct_fields : (l : List Token) (p : ℕ) (x : Fault) → is_fixed fixed.Struct (stands l p) ≡ true → is_name (stands l (p + 1)) ≡ true → FailsBy item.field_block 0 l (p + 2) x → FailsBy item.structure 0 l p x
struct_fields l p x e f a =
    row_failed item.structure (item.a_name ∷ item.field_block ∷ term fixed.Semi ∷ []) 0 l p x (struct_at l p true e) (omega arith) (row_later item.a_name (item.field_block ∷ term fixed.Semi ∷ []) 0 0 l (p + 1) (p + 2) x (omega arith) (struct_to l p f) (row_here item.field_block (term fixed.Semi ∷ []) 0 0 l (p + 2) x (omega arith) a))

pub struct_semi : (l : List Token) (p q : ℕ) (fs : List (ℕ × List ℕ)) → is_fixed fixed.Struct (stands l p) ≡ true → is_name (stands l (p + 1)) ≡ true → ReadsFields l (p + 2) q fs → is_fixed fixed.Semi (stands l q) ≡ false → FailsBy item.structure 0 l p (Unexpected q)
struct_semi l p q fs e f r c =
    row_failed item.structure (item.a_name ∷ item.field_block ∷ term fixed.Semi ∷ []) 0 l p (Unexpected q) (struct_at l p true e) (omega arith) (row_later item.a_name (item.field_block ∷ term fixed.Semi ∷ []) 0 0 l (p + 1) (p + 2) (Unexpected q) (omega arith) (struct_to l p f) (row_later item.field_block (term fixed.Semi ∷ []) 0 0 l (p + 2) q (Unexpected q) (omega arith) r.reads (row_here (term fixed.Semi) [] 0 0 l q (Unexpected q) (omega arith) (fails_term fixed.Semi 0 l q c))))

pub reads_struct : (l : List Token) (p q x : ℕ) (t : List ℕ) (fs : List (ℕ × List ℕ)) → is_fixed fixed.Struct (stands l p) ≡ true → is_name (stands l (p + 1)) ≡ true → ReadsFields l (p + 2) q fs → is_fixed fixed.Semi (stands l q) ≡ true → x ≡ offset_at l (p + 1) → t ≡ text_at l (p + 1) → Reads item.structure 0 (SpellsStruct (head.Struct x t fs)) l p (q + 1)
reads_struct l p q x t fs e f r c g h =
    let a = r.forth in
    let w = r.spelled in
    let inside = fixed_inside fixed.Semi l q c in
    let o = offset_at l p in let k = offset_at l q in let n = name_mark (offset_at l (p + 1)) (text_at l (p + 1)) in
    let way : Structure = record { struct_at = o; tag_at = offset_at l (p + 1); tag = text_at l (p + 1); open_at = w.0; first = w.1; others = w.2; close_at = w.3; semi_at = k } in
    let second = mark_to n l (p + 1) (p + 1 + 1) (p + 2) (omega arith) (named_mark l (p + 1) f) in
    let third : rest l (p + 2) ≡ sign fixed.OpenBrace w.0 ∷ sign fixed.Int w.1.int_at ∷ name_mark w.1.name_at w.1.name ∷ sign fixed.Semi w.1.semi_at ∷ ((fields_tokens w.2 ++ sign fixed.CloseBrace w.3 ∷ sign fixed.Semi k ∷ []) ++ rest l (q + 1)) = w.4 ∙ ap (λ (y : List Mark). sign fixed.OpenBrace w.0 ∷ sign fixed.Int w.1.int_at ∷ name_mark w.1.name_at w.1.name ∷ sign fixed.Semi w.1.semi_at ∷ (fields_tokens w.2 ++ sign fixed.CloseBrace w.3 ∷ y)) (fixed_mark fixed.Semi l q c) ∙ ap (λ (y : List Mark). sign fixed.OpenBrace w.0 ∷ sign fixed.Int w.1.int_at ∷ name_mark w.1.name_at w.1.name ∷ sign fixed.Semi w.1.semi_at ∷ y) (sym (append_assoc (fields_tokens w.2) (sign fixed.CloseBrace w.3 ∷ sign fixed.Semi k ∷ []) (rest l (q + 1)))) in
    record {
      forth = omega arith;
      within = omega arith;
      reads = row_read item.structure (item.a_name ∷ item.field_block ∷ term fixed.Semi ∷ []) 0 l p (q + 1) (struct_at l p true e) (omega arith) (row_one item.a_name (item.field_block ∷ term fixed.Semi ∷ []) 0 0 l (p + 1) (p + 2) (q + 1) (omega arith) (struct_to l p f) (row_one item.field_block (term fixed.Semi ∷ []) 0 0 l (p + 2) q (q + 1) (omega arith) r.reads (row_one (term fixed.Semi) [] 0 0 l q (q + 1) (q + 1) (omega arith) (read_term fixed.Semi 0 l q c (omega arith)) (row_none 0 l (q + 1)))));
      spelled = (struct_tokens way, fixed_mark fixed.Struct l p e ∙ ap (λ (y : List Mark). sign fixed.Struct o ∷ y) (second ∙ ap (λ (y : List Mark). n ∷ y) third), (way, refl, ap (λ (y : ℕ). head.Struct y (text_at l (p + 1)) ((w.1.name_at, w.1.name) ∷ fields_trees w.2)) (sym g) ∙ ap (λ (y : List ℕ). head.Struct x y ((w.1.name_at, w.1.name) ∷ fields_trees w.2)) (sym h) ∙ ap (head.Struct x t) w.5));
    }
