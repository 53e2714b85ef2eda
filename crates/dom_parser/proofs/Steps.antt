-- One token further.
use Rattle.std.proofs.Common.{◌≡◌, ℕ, zero, suc, ◌+◌, ◌<◌, ◌≤◌, Bool, true, false, ◌&&◌, List, [], ◌∷◌, ◌++◌, map, Option, Some, None, length, drop, refl, sym, ap, ◌∙◌, arith, add-one, append_assoc, nat_eq, if◌then◌else◌}
use Rattle.std.specs.Prelude.{slice_get}
use Rattle.std.proofs.lemmas.Option.{slice_get_within}
use Rattle.std.proofs.lemmas.Bool.{lt-leb, le-leb}
use Rattle.std.proofs.lemmas.List.{length-drop}
use Rattle.dom_words.specs.declared.operators.BinOp.{BinOp}
use Rattle.dom_words.specs.declared.operators.BinOp.TheVariants as bin
use Rattle.dom_words.specs.declared.operators.UnOp.{UnOp}
use Rattle.dom_words.specs.declared.operators.UnOp.TheVariants as un
use Rattle.dom_lexer.specs.declared.token.Token.{Token}
use Rattle.dom_parser.specs.declared.faults.Fault.{Fault}
use Rattle.dom_parser.specs.declared.faults.Fault.TheVariants.{Unexpected, TooNested, Memory}
use Rattle.dom_parser.specs.declared.kinds.Fixed.{Fixed}
use Rattle.dom_parser.specs.declared.kinds.Kind.{Kind}
use Rattle.dom_parser.specs.declared.kinds.Kind.TheVariants as kind
use Rattle.dom_parser.specs.inner.AtPlace.{Where, is_there, rest, text_in, text_at, is_fixed, is_name}
use Rattle.dom_parser.specs.Tokens.{Mark, mark, kind_in, stands, offset_in, offset_at, name_text, ahead, is_number, number_first}
use Rattle.dom_parser.specs.Grammar.{top, sign, name_mark, number_mark, bin_mark, un_mark, un_kind}
use Rattle.dom_parser.specs.inner.Following as item
use Rattle.dom_parser.specs.inner.Following.{Item, term, close, ended, level, more, args, args_row, when, then_row, operator_row, operand_row, level_row, choice_row, expand, may_skip, resume, step, may_end, ends, held, Trace, fine, stuck, count, on_step, trace, limit, Problem, bad, deep, problem, fault_from}
use Rattle.dom_parser.specs.inner.Reads.{Step, FailsBy}
use Rattle.dom_parser.proofs.KnownKinds.{kind_fixed, kind_name}

rest_next : (l : List Token) (p : ℕ) (t : Token) → slice_get l p ≡ Some t → rest l p ≡ mark t ∷ rest l (p + 1)
rest_next l p t e = rw add-one (go l p t e)
  where
    go : (l : List Token) (p : ℕ) (t : Token) → slice_get l p ≡ Some t → rest l p ≡ mark t ∷ rest l (suc p)
    go [] p t e = absurd (cc)
    go (x ∷ l) zero t e = let h : x ≡ t = cc in ap (λ (y : Token). mark y ∷ map mark l) h
    go (x ∷ l) (suc p) t e = go l p t e

pub rest_end : (l : List Token) (p : ℕ) → slice_get l p ≡ None → rest l p ≡ []
rest_end [] zero e = refl
rest_end [] (suc p) e = refl
rest_end (x ∷ l) zero e = absurd (cc)
rest_end (x ∷ l) (suc p) e = rest_end l p e

pub number_ahead : (l : List Token) (p : ℕ) → number_first (rest l p) ≡ is_number (stands l p)
number_ahead l p = go (slice_get l p) refl
  where
    go : (o : Option Token) → slice_get l p ≡ o → number_first (rest l p) ≡ is_number (stands l p)
    go None e = ap number_first (rest_end l p e) ∙ sym (ap (λ o. is_number (kind_in o)) e)
    go (Some t) e = ap number_first (rest_next l p t e) ∙ sym (ap (λ o. is_number (kind_in o)) e)

level_end : (j : ℕ) (n : Bool) → level_row j kind.End n ≡ None
level_end zero n = refl
level_end (suc j) n = ap (λ (r : Option (List Item)). then_row r (more j ∷ [])) (level_end j n)

pub more_end : (j : ℕ) (b : Bool) → (if b then when false choice_row else operator_row j None) ≡ None
more_end j true = refl
more_end j false = refl

expand_end : (i : Item) (n : Bool) → expand i kind.End n ≡ None
expand_end (term f) n = refl
expand_end item.a_name n = refl
expand_end item.a_number n = refl
expand_end (close f) n = refl
expand_end ended n = refl
expand_end (level j) n = level_end j n
expand_end (more j) n = more_end j (nat_eq j 10)
expand_end item.name_rest n = refl
expand_end args n = ap (λ (r : Option (List Item)). then_row r args_row) (level_end top n)
expand_end item.more_args n = refl
expand_end item.target_rest n = refl
expand_end item.assignment n = refl
expand_end item.stmt n = refl
expand_end item.stmts n = refl
expand_end item.block n = refl
expand_end item.condition n = refl
expand_end item.body n = refl
expand_end item.else_part n = refl
expand_end item.else_rest n = refl
expand_end item.decl n = refl
expand_end item.decls n = refl
expand_end item.constant n = refl
expand_end item.value n = refl
expand_end item.start n = refl
expand_end item.start_part n = refl
expand_end item.size n = refl
expand_end item.size_part n = refl
expand_end item.fields n = refl
expand_end item.field_block n = refl
expand_end item.structure n = refl
expand_end item.header n = refl
expand_end item.guard n = refl
expand_end item.transactions n = refl

-- what is said of a stack that a token leads to
abbrev pub after : List Token → ℕ → List Item → Option Problem
after l p s = problem p (count (held s) (trace s (rest l (p + 1))))

-- the token begins the item
pub taken : (l : List Token) (p : ℕ) (i : Item) (row s : List Item) → expand i (stands l p) (ahead l p) ≡ Some row → fault_from l p (i ∷ s) ≡ after l p (row ++ s)
taken l p i row s e = go (slice_get l p) refl
  where
    go : (o : Option Token) → slice_get l p ≡ o → fault_from l p (i ∷ s) ≡ after l p (row ++ s)
    go None q =
        let f : expand i kind.End (ahead l p) ≡ Some row = ap (λ o. expand i (kind_in o) (ahead l p)) (sym q) ∙ e in
        let g : expand i kind.End (ahead l p) ≡ None = expand_end i (ahead l p) in
        absurd (cc)
    go (Some t) q =
        let f : expand i (kind_in (Some t)) (ahead l p) ≡ Some row = ap (λ o. expand i (kind_in o) (ahead l p)) (sym q) ∙ e in
        ap (λ (x : List Mark). problem p (trace (i ∷ s) x)) (rest_next l p t q)
        ∙ ap (λ (n : Bool). problem p (on_step (step (i ∷ s) (kind_in (Some t)) n) (λ s. trace s (rest l (p + 1))))) (number_ahead l (p + 1))
        ∙ ap (λ (r : Option (List Item)). problem p (on_step (resume r (may_skip i) (step s (kind_in (Some t)) (ahead l p)) s) (λ s. trace s (rest l (p + 1))))) f

-- it does not, and the item may be nothing
pub skips : (l : List Token) (p : ℕ) (i : Item) (s : List Item) → expand i (stands l p) (ahead l p) ≡ None → may_skip i ≡ true → fault_from l p (i ∷ s) ≡ fault_from l p s
skips l p i s e m = go (slice_get l p) refl
  where
    go : (o : Option Token) → slice_get l p ≡ o → fault_from l p (i ∷ s) ≡ fault_from l p s
    go None q =
        ap (λ (x : List Mark). problem p (trace (i ∷ s) x)) (rest_end l p q)
        ∙ ap (λ (b : Bool). problem p (if b && may_end s then fine else stuck)) m
        ∙ sym (ap (λ (x : List Mark). problem p (trace s x)) (rest_end l p q))
    go (Some t) q =
        let f : expand i (kind_in (Some t)) (ahead l p) ≡ None = ap (λ o. expand i (kind_in o) (ahead l p)) (sym q) ∙ e in
        ap (λ (x : List Mark). problem p (trace (i ∷ s) x)) (rest_next l p t q)
        ∙ ap (λ (n : Bool). problem p (on_step (step (i ∷ s) (kind_in (Some t)) n) (λ s. trace s (rest l (p + 1))))) (number_ahead l (p + 1))
        ∙ ap (λ (r : Option (List Item)). problem p (on_step (resume r (may_skip i) (step s (kind_in (Some t)) (ahead l p)) s) (λ s. trace s (rest l (p + 1))))) f
        ∙ ap (λ (b : Bool). problem p (on_step (resume None b (step s (kind_in (Some t)) (ahead l p)) s) (λ s. trace s (rest l (p + 1))))) m
        ∙ sym (ap (λ (n : Bool). problem p (on_step (step s (kind_in (Some t)) n) (λ s. trace s (rest l (p + 1))))) (number_ahead l (p + 1)))
        ∙ sym (ap (λ (x : List Mark). problem p (trace s x)) (rest_next l p t q))

-- it does not, and the item may not be nothing
pub fails : (l : List Token) (p : ℕ) (i : Item) (s : List Item) → expand i (stands l p) (ahead l p) ≡ None → may_skip i ≡ false → fault_from l p (i ∷ s) ≡ Some (bad p)
fails l p i s e m = go (slice_get l p) refl
  where
    go : (o : Option Token) → slice_get l p ≡ o → fault_from l p (i ∷ s) ≡ Some (bad p)
    go None q =
        ap (λ (x : List Mark). problem p (trace (i ∷ s) x)) (rest_end l p q)
        ∙ ap (λ (b : Bool). problem p (if b && may_end s then fine else stuck)) m
    go (Some t) q =
        let f : expand i (kind_in (Some t)) (ahead l p) ≡ None = ap (λ o. expand i (kind_in o) (ahead l p)) (sym q) ∙ e in
        ap (λ (x : List Mark). problem p (trace (i ∷ s) x)) (rest_next l p t q)
        ∙ ap (λ (n : Bool). problem p (on_step (step (i ∷ s) (kind_in (Some t)) n) (λ s. trace s (rest l (p + 1))))) (number_ahead l (p + 1))
        ∙ ap (λ (r : Option (List Item)). problem p (on_step (resume r (may_skip i) (step s (kind_in (Some t)) (ahead l p)) s) (λ s. trace s (rest l (p + 1))))) f
        ∙ ap (λ (b : Bool). problem p (on_step (resume None b (step s (kind_in (Some t)) (ahead l p)) s) (λ s. trace s (rest l (p + 1))))) m

pub takes : (l : List Token) (p : ℕ) (i : Item) (row s : List Item) → expand i (stands l p) (ahead l p) ≡ Some row → held (row ++ s) ≤ limit → fault_from l p (i ∷ s) ≡ fault_from l (p + 1) (row ++ s)
takes l p i row s e h =
    taken l p i row s e ∙ ap (λ b. if b then fault_from l (p + 1) (row ++ s) else Some (deep p)) (le-leb (held (row ++ s)) limit h)

pub too_deep : (l : List Token) (p : ℕ) (i : Item) (row s : List Item) → expand i (stands l p) (ahead l p) ≡ Some row → limit < held (row ++ s) → fault_from l p (i ∷ s) ≡ Some (deep p)
too_deep l p i row s e h =
    taken l p i row s e ∙ ap (λ b. if b then fault_from l (p + 1) (row ++ s) else Some (deep p)) (lt-leb (held (row ++ s)) limit h)

-- two items that go on alike
pub same_row : (l : List Token) (p : ℕ) (i j : Item) (row s : List Item) → expand i (stands l p) (ahead l p) ≡ Some row → expand j (stands l p) (ahead l p) ≡ Some row → fault_from l p (i ∷ s) ≡ fault_from l p (j ∷ s)
same_row l p i j row s e f = taken l p i row s e ∙ sym (taken l p j row s f)

-- an item that is another one and then others
pub first_of : (l : List Token) (p : ℕ) (i j : Item) (x row s : List Item) → expand i (stands l p) (ahead l p) ≡ then_row (expand j (stands l p) (ahead l p)) x → expand j (stands l p) (ahead l p) ≡ Some row → fault_from l p (i ∷ s) ≡ fault_from l p (j ∷ (x ++ s))
first_of l p i j x row s e f =
    taken l p i (row ++ x) s (e ∙ ap (λ (r : Option (List Item)). then_row r x) f) ∙ ap (after l p) (append_assoc row x s) ∙ sym (taken l p j row (x ++ s) f)

pub extends : (l : List Token) (p : ℕ) (i j : Item) (x s : List Item) → may_skip i ≡ false → may_skip j ≡ false → expand i (stands l p) (ahead l p) ≡ then_row (expand j (stands l p) (ahead l p)) x → fault_from l p (i ∷ s) ≡ fault_from l p (j ∷ (x ++ s))
extends l p i j x s a b e = go (expand j (stands l p) (ahead l p)) refl
  where
    go : (o : Option (List Item)) → expand j (stands l p) (ahead l p) ≡ o → fault_from l p (i ∷ s) ≡ fault_from l p (j ∷ (x ++ s))
    go None f = fails l p i s (e ∙ ap (λ (r : Option (List Item)). then_row r x) f) a ∙ sym (fails l p j (x ++ s) f b)
    go (Some row) f = first_of l p i j x row s e f

one_more : (b : Bool) (x y z : ℕ) → z ≡ x + y → (if b then suc z else z) ≡ (if b then suc x else x) + y
one_more true x y z h = omega arith
one_more false x y z h = h

pub held_append : (r s : List Item) → held (r ++ s) ≡ held r + held s
held_append [] s = omega arith
held_append (i ∷ r) s = one_more (ends i) (held r) (held s) (held (r ++ s)) (held_append r s)

-- and so are several items
abbrev pub Row : List Item → ℕ → List Token → ℕ → ℕ → Type 0
Row r n l p q = (s : List Item) → held s ≡ n → fault_from l p (r ++ s) ≡ fault_from l q s

pub record RowFails (r : List Item) (n : ℕ) (l : List Token) (p : ℕ) (f : Problem) : Type 0 where
  pub there : (s : List Item) → held s ≡ n → fault_from l p (r ++ s) ≡ Some f

abbrev pub RowFailsBy : List Item → ℕ → List Token → ℕ → Fault → Type 0
RowFailsBy r n l p (Unexpected q) = RowFails r n l p (bad q)
RowFailsBy r n l p (TooNested q) = RowFails r n l p (deep q)
RowFailsBy r n l p Memory = Unit {0}

pub row_none : (n : ℕ) (l : List Token) (p : ℕ) → Row [] n l p p
row_none n l p s z = refl

pub row_one : (i : Item) (r : List Item) (n m : ℕ) (l : List Token) (p q t : ℕ) → held r + n ≡ m → Step i m l p q → Row r n l q t → Row (i ∷ r) n l p t
row_one i r n m l p q t h a b s z = let k = held_append r s in a (r ++ s) (omega arith) ∙ b s z

pub row_here : (i : Item) (r : List Item) (n m : ℕ) (l : List Token) (p : ℕ) (f : Fault) → held r + n ≡ m → FailsBy i m l p f → RowFailsBy (i ∷ r) n l p f
row_here i r n m l p (Unexpected x) h a = record { there = λ s z. let k = held_append r s in a.there (r ++ s) (omega arith) }
row_here i r n m l p (TooNested x) h a = record { there = λ s z. let k = held_append r s in a.there (r ++ s) (omega arith) }
row_here i r n m l p Memory h a = tt

pub row_later : (i : Item) (r : List Item) (n m : ℕ) (l : List Token) (p q : ℕ) (f : Fault) → held r + n ≡ m → Step i m l p q → RowFailsBy r n l q f → RowFailsBy (i ∷ r) n l p f
row_later i r n m l p q (Unexpected x) h a b = record { there = λ s z. let k = held_append r s in a (r ++ s) (omega arith) ∙ b.there s z }
row_later i r n m l p q (TooNested x) h a b = record { there = λ s z. let k = held_append r s in a (r ++ s) (omega arith) ∙ b.there s z }
row_later i r n m l p q Memory h a b = tt

-- the token begins the item, and the row that it leads to is read, or fails
pub row_read : (i : Item) (r : List Item) (n : ℕ) (l : List Token) (p q : ℕ) → expand i (stands l p) (ahead l p) ≡ Some r → held r + n ≤ limit → Row r n l (p + 1) q → Step i n l p q
row_read i r n l p q e h a s z = let k = held_append r s in takes l p i r s e (omega arith) ∙ a s z

pub row_failed : (i : Item) (r : List Item) (n : ℕ) (l : List Token) (p : ℕ) (f : Fault) → expand i (stands l p) (ahead l p) ≡ Some r → held r + n ≤ limit → RowFailsBy r n l (p + 1) f → FailsBy i n l p f
row_failed i r n l p (Unexpected x) e h a = record { there = λ s z. let k = held_append r s in takes l p i r s e (omega arith) ∙ a.there s z }
row_failed i r n l p (TooNested x) e h a = record { there = λ s z. let k = held_append r s in takes l p i r s e (omega arith) ∙ a.there s z }
row_failed i r n l p Memory e h a = tt

pub fails_here : (i : Item) (n : ℕ) (l : List Token) (p : ℕ) → expand i (stands l p) (ahead l p) ≡ None → may_skip i ≡ false → FailsBy i n l p (Unexpected p)
fails_here i n l p e m = record { there = λ s z. fails l p i s e m }

pub deep_here : (i : Item) (r : List Item) (n : ℕ) (l : List Token) (p : ℕ) → expand i (stands l p) (ahead l p) ≡ Some r → limit < held r + n → FailsBy i n l p (TooNested p)
deep_here i r n l p e h = record { there = λ s z. let k = held_append r s in too_deep l p i r s e (omega arith) }

-- an item that fails as another does
pub fails_as : (i j : Item) (n : ℕ) (l : List Token) (p : ℕ) (f : Fault) → ((s : List Item) → fault_from l p (i ∷ s) ≡ fault_from l p (j ∷ s)) → FailsBy j n l p f → FailsBy i n l p f
fails_as i j n l p (Unexpected x) e a = record { there = λ s z. e s ∙ a.there s z }
fails_as i j n l p (TooNested x) e a = record { there = λ s z. e s ∙ a.there s z }
fails_as i j n l p Memory e a = tt

-- items of one token
pub one_token : (i : Item) (n : ℕ) (l : List Token) (p : ℕ) → expand i (stands l p) (ahead l p) ≡ Some [] → n ≤ limit → Step i n l p (p + 1)
one_token i n l p e h s z = takes l p i [] s e (omega arith)

pub read_term : (f : Fixed) (n : ℕ) (l : List Token) (p : ℕ) → is_fixed f (stands l p) ≡ true → n ≤ limit → Step (term f) n l p (p + 1)
read_term f n l p e h = one_token (term f) n l p (ap (λ b. when b []) e) h

pub read_name : (n : ℕ) (l : List Token) (p : ℕ) → is_name (stands l p) ≡ true → n ≤ limit → Step item.a_name n l p (p + 1)
read_name n l p e h = one_token item.a_name n l p (ap (λ b. when b []) e) h

pub read_ended : (n : ℕ) (l : List Token) (p : ℕ) → Step ended n l p p
read_ended n l p s z = skips l p ended s refl refl

pub read_close : (f : Fixed) (n : ℕ) (l : List Token) (p : ℕ) → is_fixed f (stands l p) ≡ true → n + 1 ≤ limit → Step (close f) n l p (p + 1)
read_close f n l p e h s z =
    takes l p (close f) (ended ∷ []) s (ap (λ b. when b (ended ∷ [])) e) (omega arith) ∙ skips l (p + 1) ended s refl refl

pub fails_term : (f : Fixed) (n : ℕ) (l : List Token) (p : ℕ) → is_fixed f (stands l p) ≡ false → FailsBy (term f) n l p (Unexpected p)
fails_term f n l p e = fails_here (term f) n l p (ap (λ b. when b []) e) refl

pub fails_name : (n : ℕ) (l : List Token) (p : ℕ) → is_name (stands l p) ≡ false → FailsBy item.a_name n l p (Unexpected p)
fails_name n l p e = fails_here item.a_name n l p (ap (λ b. when b []) e) refl

pub fails_close : (f : Fixed) (n : ℕ) (l : List Token) (p : ℕ) → is_fixed f (stands l p) ≡ false → FailsBy (close f) n l p (Unexpected p)
fails_close f n l p e = fails_here (close f) n l p (ap (λ b. when b (ended ∷ [])) e) refl

-- the token itself
pub where_so : (b : Bool) (P : Type 0) → P → Where b P
where_so true P h = h
where_so false P h = tt

marked : (l : List Token) (p : ℕ) (k : Kind) → stands l p ≡ k → is_there k ≡ true → rest l p ≡ record { place = offset_at l p; kind = k; text = name_text k (text_at l p) } ∷ rest l (p + 1)
marked l p k e h = go (slice_get l p) refl
  where
    go : (o : Option Token) → slice_get l p ≡ o → rest l p ≡ record { place = offset_at l p; kind = k; text = name_text k (text_at l p) } ∷ rest l (p + 1)
    go None q = let f : kind.End ≡ k = ap kind_in (sym q) ∙ e in let g : false ≡ true = ap is_there f ∙ h in absurd (cc)
    go (Some t) q =
        let f : kind_in (Some t) ≡ k = ap kind_in (sym q) ∙ e in
        let build : Option Token → Kind → List Mark = λ o k. record { place = offset_in o; kind = k; text = name_text k (text_in o) } ∷ rest l (p + 1) in
        rest_next l p t q ∙ ap (build (Some t)) f ∙ ap (λ o. build o k) (sym q)

inside : (l : List Token) (p : ℕ) (k : Kind) → stands l p ≡ k → is_there k ≡ true → p < length l
inside l p k e h = go (slice_get l p) refl
  where
    go : (o : Option Token) → slice_get l p ≡ o → p < length l
    go None q = let f : kind.End ≡ k = ap kind_in (sym q) ∙ e in let g : false ≡ true = ap is_there f ∙ h in absurd (cc)
    go (Some t) q = slice_get_within l p t q

pub fixed_mark : (f : Fixed) (l : List Token) (p : ℕ) → is_fixed f (stands l p) ≡ true → rest l p ≡ sign f (offset_at l p) ∷ rest l (p + 1)
fixed_mark f l p e = marked l p (kind.Fixed f) (kind_fixed f (stands l p) e) refl

pub fixed_inside : (f : Fixed) (l : List Token) (p : ℕ) → is_fixed f (stands l p) ≡ true → p < length l
fixed_inside f l p e = inside l p (kind.Fixed f) (kind_fixed f (stands l p) e) refl

pub sign_mark : (f : Fixed) (l : List Token) (p : ℕ) → stands l p ≡ kind.Fixed f → rest l p ≡ sign f (offset_at l p) ∷ rest l (p + 1)
sign_mark f l p e = marked l p (kind.Fixed f) e refl

pub sign_inside : (f : Fixed) (l : List Token) (p : ℕ) → stands l p ≡ kind.Fixed f → p < length l
sign_inside f l p e = inside l p (kind.Fixed f) e refl

pub word_mark : (l : List Token) (p : ℕ) → stands l p ≡ kind.Name → rest l p ≡ name_mark (offset_at l p) (text_at l p) ∷ rest l (p + 1)
word_mark l p e = marked l p kind.Name e refl

pub word_inside : (l : List Token) (p : ℕ) → stands l p ≡ kind.Name → p < length l
word_inside l p e = inside l p kind.Name e refl

pub named_mark : (l : List Token) (p : ℕ) → is_name (stands l p) ≡ true → rest l p ≡ name_mark (offset_at l p) (text_at l p) ∷ rest l (p + 1)
named_mark l p e = word_mark l p (kind_name (stands l p) e)

pub named_inside : (l : List Token) (p : ℕ) → is_name (stands l p) ≡ true → p < length l
named_inside l p e = word_inside l p (kind_name (stands l p) e)

pub numeral_mark : (l : List Token) (p w : ℕ) → stands l p ≡ kind.Number w → rest l p ≡ number_mark (offset_at l p) w ∷ rest l (p + 1)
numeral_mark l p w e = marked l p (kind.Number w) e refl

pub numeral_inside : (l : List Token) (p w : ℕ) → stands l p ≡ kind.Number w → p < length l
numeral_inside l p w e = inside l p (kind.Number w) e refl

pub operator_mark : (o : BinOp) (l : List Token) (p : ℕ) → stands l p ≡ kind.Operator o → rest l p ≡ bin_mark o (offset_at l p) ∷ rest l (p + 1)
operator_mark o l p e = marked l p (kind.Operator o) e refl

pub operator_inside : (o : BinOp) (l : List Token) (p : ℕ) → stands l p ≡ kind.Operator o → p < length l
operator_inside o l p e = inside l p (kind.Operator o) e refl

pub unary_mark : (u : UnOp) (l : List Token) (p : ℕ) → stands l p ≡ un_kind u → rest l p ≡ un_mark u (offset_at l p) ∷ rest l (p + 1)
unary_mark un.Neg l p e = marked l p (kind.Operator bin.Sub) e refl
unary_mark un.Inv l p e = marked l p kind.Inv e refl
unary_mark un.Not l p e = marked l p kind.Not e refl

pub unary_inside : (u : UnOp) (l : List Token) (p : ℕ) → stands l p ≡ un_kind u → p < length l
unary_inside un.Neg l p e = inside l p (kind.Operator bin.Sub) e refl
unary_inside un.Inv l p e = inside l p kind.Inv e refl
unary_inside un.Not l p e = inside l p kind.Not e refl

drop_none : (l : List Token) (p : ℕ) → slice_get l p ≡ None → drop p l ≡ []
drop_none [] zero e = refl
drop_none [] (suc p) e = refl
drop_none (x ∷ l) zero e = absurd (cc)
drop_none (x ∷ l) (suc p) e = drop_none l p e

-- a token where nothing more may come
pub rest_there : (l : List Token) (p : ℕ) → p < length l → fault_from l p [] ≡ Some (bad p)
rest_there l p h = go (slice_get l p) refl
  where
    go : (o : Option Token) → slice_get l p ≡ o → fault_from l p [] ≡ Some (bad p)
    go None q = absurd (let d : length (drop p l) ≡ 0 = ap length (drop_none l p q) in omega (arith, length-drop p l))
    go (Some t) q = ap (λ (x : List Mark). problem p (trace [] x)) (rest_next l p t q)

pub ruleset within = where_so
