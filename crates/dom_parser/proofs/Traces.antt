-- A way is read as what it spells: its tokens lead from an item to what comes after it, and the counts on the way are those of
-- the open constructs.
use Rattle.std.proofs.Common.{◌≡◌, ℕ, zero, suc, ◌<◌, ◌≤◌, Bool, true, false, ◌&&◌, List, [], ◌∷◌, ◌++◌, Option, Some, None, refl, sym, ap, ◌∙◌, subst, arith, append_assoc, nat_eq, if◌then◌else◌}
use Rattle.std.proofs.lemmas.Bool.{eqb-true, eq-eqb}
use Rattle.dom_words.specs.declared.operators.BinOp.{BinOp}
use Rattle.dom_words.specs.declared.operators.BinOp.TheVariants as bin
use Rattle.dom_words.specs.declared.operators.UnOp.{UnOp}
use Rattle.dom_words.specs.declared.operators.UnOp.TheVariants as un
use Rattle.dom_parser.specs.declared.kinds.Fixed.{Fixed}
use Rattle.dom_parser.specs.declared.kinds.Fixed.TheVariants as fixed
use Rattle.dom_parser.specs.declared.kinds.Kind.{Kind}
use Rattle.dom_parser.specs.declared.kinds.Kind.TheVariants as kind
use Rattle.dom_parser.specs.Tokens.{Mark, rank_of, number_first}
use Rattle.dom_parser.specs.inner.AtPlace.{is_fixed, operator_of}
use Rattle.dom_parser.specs.Grammar.{top, sign, name_mark, number_mark, bin_mark, un_mark, un_kind, Way, a_number, a_negated, a_word, a_field, an_index, a_call, in_parens, operated, level_of, More, stop, and_then, if_so, Args, no_args, some_args, MoreArgs, last_arg, next_arg, MakesNode, IsAt, IsAfter, AreArgs, AreMoreArgs, tokens, more_tokens, arg_tokens, more_arg_tokens, opens, more_opens, arg_opens, more_arg_opens}
use Rattle.dom_parser.specs.inner.Following as item
use Rattle.dom_parser.specs.inner.Following.{Item, term, close, ended, level, more, args, args_row, name_rest, more_args, when, then_row, choice_row, operator_row, level_row, expand, may_skip, resume, step, held, Trace, fine, stuck, count, on_step, trace}
use Rattle.dom_parser.proofs.Steps.{more_end}

-- counts before a trace
abbrev pub counted : List ℕ → Trace → Trace
counted [] t = t
counted (n ∷ ns) t = count n (counted ns t)

pub counted_append : (a b : List ℕ) (t : Trace) → counted (a ++ b) t ≡ counted a (counted b t)
counted_append [] b t = refl
counted_append (n ∷ a) b t = ap (count n) (counted_append a b t)

-- the first token begins the item
pub goes : (i : Item) (row s : List Item) (t : Mark) (l : List Mark) → expand i t.kind (number_first l) ≡ Some row → trace (i ∷ s) (t ∷ l) ≡ count (held (row ++ s)) (trace (row ++ s) l)
goes i row s t l e = ap (λ (r : Option (List Item)). on_step (resume r (may_skip i) (step s t.kind (number_first l)) s) (λ s. trace s l)) e

-- what comes first does not begin the item
abbrev pub Refused : Item → List Mark → Type 0
Refused i [] = Unit {0}
Refused i (t ∷ l) = expand i t.kind (number_first l) ≡ None

pub passes : (i : Item) (s : List Item) (l : List Mark) → may_skip i ≡ true → Refused i l → trace (i ∷ s) l ≡ trace s l
passes i s [] m e = ap (λ (b : Bool). if b && item.may_end s then fine else stuck) m
passes i s (t ∷ l) m e =
    ap (λ (r : Option (List Item)). on_step (resume r (may_skip i) (step s t.kind (number_first l)) s) (λ s. trace s l)) e ∙ ap (λ (b : Bool). on_step (resume None b (step s t.kind (number_first l)) s) (λ s. trace s l)) m

pub ended_passes : (s : List Item) (l : List Mark) → trace (ended ∷ s) l ≡ trace s l
ended_passes s [] = refl
ended_passes s (t ∷ l) = refl

-- an item that is another one and then others
extends : (i j : Item) (x s : List Item) (l : List Mark) → may_skip i ≡ false → may_skip j ≡ false → ((k : Kind) (n : Bool) → expand i k n ≡ then_row (expand j k n) x) → trace (i ∷ s) l ≡ trace (j ∷ (x ++ s)) l
extends i j x s [] a b e = ap (λ (c : Bool). if c && item.may_end s then fine else stuck) a ∙ sym (ap (λ (c : Bool). if c && item.may_end (x ++ s) then fine else stuck) b)
extends i j x s (t ∷ l) a b e = go (expand j t.kind (number_first l)) refl
  where
    go : (o : Option (List Item)) → expand j t.kind (number_first l) ≡ o → trace (i ∷ s) (t ∷ l) ≡ trace (j ∷ (x ++ s)) (t ∷ l)
    go None f =
        ap (λ (r : Option (List Item)). on_step (resume r (may_skip i) (step s t.kind (number_first l)) s) (λ s. trace s l)) (e t.kind (number_first l) ∙ ap (λ (r : Option (List Item)). then_row r x) f)
        ∙ ap (λ (c : Bool). on_step (resume None c (step s t.kind (number_first l)) s) (λ s. trace s l)) a
        ∙ sym (ap (λ (r : Option (List Item)). on_step (resume r (may_skip j) (step (x ++ s) t.kind (number_first l)) (x ++ s)) (λ s. trace s l)) f ∙ ap (λ (c : Bool). on_step (resume None c (step (x ++ s) t.kind (number_first l)) (x ++ s)) (λ s. trace s l)) b)
    go (Some row) f =
        goes i (row ++ x) s t l (e t.kind (number_first l) ∙ ap (λ (r : Option (List Item)). then_row r x) f)
        ∙ ap (λ (y : List Item). count (held y) (trace y l)) (append_assoc row x s)
        ∙ sym (goes j row (x ++ s) t l f)

lower : (k : ℕ) (s : List Item) (l : List Mark) → trace (level (suc k) ∷ s) l ≡ trace (level k ∷ more k ∷ s) l
lower k s l = extends (level (suc k)) (level k) (more k ∷ []) s l refl refl (λ j n. refl)

-- what ends an expression of level k: it is not gone on with
pub record Ends (k : ℕ) (l : List Mark) : Type 0 where
  pub name : Refused name_rest l
  pub op : (j : ℕ) → j < k → Refused (more j) l

pub weaker : (k : ℕ) (l : List Mark) → Ends (suc k) l → Ends k l
weaker k l e = record { name = e.name; op = λ j h. e.op j (omega arith) }

-- symbols that end an expression
pub ends_close : (f : Fixed) (k p : ℕ) (l : List Mark) → item.suffix_row (item.suffix_fixed f) ≡ None → is_fixed fixed.Question (kind.Fixed f) ≡ false → Ends k (sign f p ∷ l)
ends_close f k p l a b = record { name = a; op = λ j h. ap (λ (c : Bool). if nat_eq j 10 then when c choice_row else operator_row j None) b ∙ more_end j (nat_eq j 10) }

rank_small : (o : BinOp) → rank_of o ≤ 10
rank_small bin.Mul = omega arith
rank_small bin.Div = omega arith
rank_small bin.Rem = omega arith
rank_small bin.Add = omega arith
rank_small bin.Sub = omega arith
rank_small bin.Shl = omega arith
rank_small bin.Shr = omega arith
rank_small bin.Lt = omega arith
rank_small bin.Le = omega arith
rank_small bin.Gt = omega arith
rank_small bin.Ge = omega arith
rank_small bin.Eq = omega arith
rank_small bin.Ne = omega arith
rank_small bin.BitAnd = omega arith
rank_small bin.BitXor = omega arith
rank_small bin.BitOr = omega arith
rank_small bin.And = omega arith
rank_small bin.Or = omega arith

not_same : (a b : ℕ) → (a ≡ b → ⊥) → nat_eq a b ≡ false
not_same a b h = go (nat_eq a b) refl
  where
    go : (c : Bool) → nat_eq a b ≡ c → nat_eq a b ≡ false
    go true e = absurd (h (eqb-true a b e))
    go false e = e

other_rank : (j : ℕ) (o : BinOp) (b : Bool) → nat_eq (rank_of o) (suc j) ≡ false → (if b then when false choice_row else operator_row j (if nat_eq (rank_of o) (suc j) then Some o else None)) ≡ None
other_rank j o true e = refl
other_rank j o false e = ap (λ (c : Bool). operator_row j (if c then Some o else None)) e

-- an operator of the next rank ends a level
ends_op : (k : ℕ) (o : BinOp) (p : ℕ) (l : List Mark) → rank_of o ≡ suc k → Ends k (bin_mark o p ∷ l)
ends_op k o p l e = record { name = refl; op = λ j h. other_rank j o (nat_eq j 10) (not_same (rank_of o) (suc j) (λ f. absurd (omega arith))) }

asked : (j : ℕ) (b : Bool) → nat_eq j 10 ≡ false → (if nat_eq j 10 then when b choice_row else operator_row j None) ≡ None
asked j b e = ap (λ (c : Bool). if c then when b choice_row else operator_row j None) e

-- a question mark ends an expression without a condition
ends_question : (p : ℕ) (l : List Mark) → Ends 10 (sign fixed.Question p ∷ l)
ends_question p l = record { name = refl; op = λ j h. asked j true (not_same j 10 (λ f. absurd (omega arith))) }

pub ends_more : (k : ℕ) (m : More) (l : List Mark) → IsAfter k m → Ends (suc k) l → Ends k (more_tokens m ++ l)
ends_more k stop l a e = weaker k l e
ends_more k (and_then o p w m) l a e = ends_op k o p ((tokens w ++ more_tokens m) ++ l) a.0
ends_more k (if_so p w q v) l a e = subst (λ (j : ℕ). Ends j (more_tokens (if_so p w q v) ++ l)) (sym a.0) (ends_question p ((tokens w ++ sign fixed.Colon q ∷ tokens v) ++ l))

-- the first token of an operand that may stand after a minus sign is no number
pub no_number : (w : Way) (l : List Mark) → IsAt zero w → MakesNode un.Neg w → number_first (tokens w ++ l) ≡ false
no_number (a_number p w) l a n = absurd n
no_number (a_negated p q w) l a n = refl
no_number (a_word p m) l a n = refl
no_number (a_field p m q r f) l a n = refl
no_number (an_index p m q w r) l a n = refl
no_number (a_call p m q w r) l a n = refl
no_number (in_parens p w q) l a n = refl
no_number (operated p un.Neg w) l a n = refl
no_number (operated p un.Inv w) l a n = refl
no_number (operated p un.Not w) l a n = refl
no_number (level_of w m) l a n = absurd a

op_row : (o : UnOp) (w : Way) (l : List Mark) → IsAt zero w → MakesNode o w → expand (level 0) (un_kind o) (number_first (tokens w ++ l)) ≡ Some (level 0 ∷ ended ∷ [])
op_row un.Neg w l a n = ap (λ (b : Bool). if b then Some (item.a_number ∷ []) else Some (level 0 ∷ ended ∷ [])) (no_number w l a n)
op_row un.Inv w l a n = refl
op_row un.Not w l a n = refl

pub rank_row : (k : ℕ) (o : BinOp) → rank_of o ≡ suc k → expand (more k) (kind.Operator o) false ≡ Some (level k ∷ more k ∷ [])
rank_row k o e =
    let small = rank_small o in
    let below : nat_eq k 10 ≡ false = not_same k 10 (λ f. absurd (omega arith)) in
    ap (λ (c : Bool). if c then when false choice_row else operator_row k (operator_of (suc k) (kind.Operator o))) below ∙ ap (λ (c : Bool). operator_row k (if c then Some o else None)) (eq-eqb (rank_of o) (suc k) e)

-- a bracket that closes
closes : (f : Fixed) (p : ℕ) (s : List Item) (l : List Mark) → is_fixed f (kind.Fixed f) ≡ true → trace (close f ∷ s) (sign f p ∷ l) ≡ count (suc (held s)) (trace s l)
closes f p s l e = goes (close f) (ended ∷ []) s (sign f p) l (ap (λ (b : Bool). when b (ended ∷ [])) e) ∙ ap (count (suc (held s))) (ended_passes s l)

pub first_token : (k : ℕ) (w : Way) → IsAt k w → (t : Mark) × (l : List Mark) × (tokens w ≡ t ∷ l) × (is_fixed fixed.CloseParen t.kind ≡ false)
first_token zero (a_number p w) a = (number_mark p w, [], refl, refl)
first_token zero (a_negated p q w) a = (bin_mark bin.Sub p, number_mark q w ∷ [], refl, refl)
first_token zero (a_word p m) a = (name_mark p m, [], refl, refl)
first_token zero (a_field p m q r f) a = (name_mark p m, sign fixed.Dot q ∷ name_mark r f ∷ [], refl, refl)
first_token zero (an_index p m q w r) a = (name_mark p m, sign fixed.OpenBracket q ∷ (tokens w ++ sign fixed.CloseBracket r ∷ []), refl, refl)
first_token zero (a_call p m q w r) a = (name_mark p m, sign fixed.OpenParen q ∷ (arg_tokens w ++ sign fixed.CloseParen r ∷ []), refl, refl)
first_token zero (in_parens p w q) a = (sign fixed.OpenParen p, tokens w ++ sign fixed.CloseParen q ∷ [], refl, refl)
first_token zero (operated p un.Neg w) a = (un_mark un.Neg p, tokens w, refl, refl)
first_token zero (operated p un.Inv w) a = (un_mark un.Inv p, tokens w, refl, refl)
first_token zero (operated p un.Not w) a = (un_mark un.Not p, tokens w, refl, refl)
first_token zero (level_of w m) a = absurd a
first_token (suc k) (a_number p w) a = absurd a
first_token (suc k) (a_negated p q w) a = absurd a
first_token (suc k) (a_word p m) a = absurd a
first_token (suc k) (a_field p m q r f) a = absurd a
first_token (suc k) (an_index p m q w r) a = absurd a
first_token (suc k) (a_call p m q w r) a = absurd a
first_token (suc k) (in_parens p w q) a = absurd a
first_token (suc k) (operated p o w) a = absurd a
first_token (suc k) (level_of w m) a = let f = first_token k w a.0 in (f.0, f.1 ++ more_tokens m, ap (λ (x : List Mark). x ++ more_tokens m) f.2, f.3)

args_go : (t : Mark) (l : List Mark) (s : List Item) → is_fixed fixed.CloseParen t.kind ≡ false → trace (args ∷ s) (t ∷ l) ≡ trace (level top ∷ more_args ∷ close fixed.CloseParen ∷ s) (t ∷ l)
args_go t l s h = go (level_row top t.kind (number_first l)) refl
  where
    go : (o : Option (List Item)) → level_row top t.kind (number_first l) ≡ o → trace (args ∷ s) (t ∷ l) ≡ trace (level top ∷ more_args ∷ close fixed.CloseParen ∷ s) (t ∷ l)
    go None f =
        ap (λ (b : Bool). on_step (resume (if b then Some (ended ∷ []) else then_row (level_row top t.kind (number_first l)) args_row) false (step s t.kind (number_first l)) s) (λ s. trace s l)) h
        ∙ ap (λ (r : Option (List Item)). on_step (resume (then_row r args_row) false (step s t.kind (number_first l)) s) (λ s. trace s l)) f
        ∙ sym (ap (λ (r : Option (List Item)). on_step (resume r false (step (more_args ∷ close fixed.CloseParen ∷ s) t.kind (number_first l)) (more_args ∷ close fixed.CloseParen ∷ s)) (λ s. trace s l)) f)
    go (Some row) f =
        goes args (row ++ args_row) s t l (ap (λ (b : Bool). if b then Some (ended ∷ []) else then_row (level_row top t.kind (number_first l)) args_row) h ∙ ap (λ (r : Option (List Item)). then_row r args_row) f)
        ∙ ap (λ (y : List Item). count (held y) (trace y l)) (append_assoc row args_row s)
        ∙ sym (goes (level top) row (more_args ∷ close fixed.CloseParen ∷ s) t l f)

-- an expression does not begin with a bracket that closes
begun : (w : Way) → IsAt top w → (s : List Item) (b c l : List Mark) → trace (args ∷ s) (((tokens w ++ b) ++ c) ++ l) ≡ trace (level top ∷ more_args ∷ close fixed.CloseParen ∷ s) (((tokens w ++ b) ++ c) ++ l)
begun w a s b c l = let f = first_token top w a in
    ap (λ (x : List Mark). trace (args ∷ s) (((x ++ b) ++ c) ++ l)) f.2 ∙ args_go f.0 (((f.1 ++ b) ++ c) ++ l) s f.3 ∙ sym (ap (λ (x : List Mark). trace (level top ∷ more_args ∷ close fixed.CloseParen ∷ s) (((x ++ b) ++ c) ++ l)) f.2)

pub ends_arg : (m : MoreArgs) (r : ℕ) (l : List Mark) → Ends top (more_arg_tokens m ++ sign fixed.CloseParen r ∷ l)
ends_arg last_arg r l = ends_close fixed.CloseParen top r l refl refl
ends_arg (next_arg p w m) r l = ends_close fixed.Comma top p ((tokens w ++ more_arg_tokens m) ++ sign fixed.CloseParen r ∷ l) refl refl

-- an expression of any level, where it is known how it is read
abbrev pub Traced : Way → Type 0
Traced w = (s : List Item) (l : List Mark) → Ends top l → trace (level top ∷ s) (tokens w ++ l) ≡ counted (opens (held s) w) (trace s l)

chosen : (k : ℕ) → k ≡ 10 → (p : ℕ) (w : Way) (q : ℕ) (v : Way) → Traced w → Traced v → (s : List Item) (l : List Mark) → Ends (suc k) l → trace (more k ∷ s) (more_tokens (if_so p w q v) ++ l) ≡ counted (more_opens (held s) (if_so p w q v)) (trace s l)
chosen k t p w q v a b s l e =
    let e11 : Ends top l = subst (λ (j : ℕ). Ends (suc j) l) t e in
    ap (λ (j : ℕ). trace (more j ∷ s) (more_tokens (if_so p w q v) ++ l)) t
    ∙ ap (λ (x : List Mark). count (suc (held s)) (trace (level top ∷ term fixed.Colon ∷ level top ∷ ended ∷ s) x)) (append_assoc (tokens w) (sign fixed.Colon q ∷ tokens v) l)
    ∙ ap (count (suc (held s))) (a (term fixed.Colon ∷ level top ∷ ended ∷ s) (sign fixed.Colon q ∷ (tokens v ++ l)) (ends_close fixed.Colon top q (tokens v ++ l) refl refl) ∙ ap (counted (opens (suc (held s)) w)) (ap (count (suc (held s))) (b (ended ∷ s) l e11 ∙ ap (counted (opens (suc (held s)) v)) (ended_passes s l))) ∙ sym (counted_append (opens (suc (held s)) w) (suc (held s) ∷ opens (suc (held s)) v) (trace s l)))

pub in_brackets : (f : Fixed) (w : Way) → Traced w → (r : ℕ) (s : List Item) (l : List Mark) → item.suffix_row (item.suffix_fixed f) ≡ None → is_fixed fixed.Question (kind.Fixed f) ≡ false → is_fixed f (kind.Fixed f) ≡ true → trace (level top ∷ close f ∷ s) ((tokens w ++ sign f r ∷ []) ++ l) ≡ counted (opens (suc (held s)) w ++ suc (held s) ∷ []) (trace s l)
in_brackets f w a r s l x y z =
    ap (trace (level top ∷ close f ∷ s)) (append_assoc (tokens w) (sign f r ∷ []) l)
    ∙ a (close f ∷ s) (sign f r ∷ l) (ends_close f top r l x y)
    ∙ ap (counted (opens (suc (held s)) w)) (closes f r s l z)
    ∙ sym (counted_append (opens (suc (held s)) w) (suc (held s) ∷ []) (trace s l))

mutual
  pub way_traced : (k : ℕ) (w : Way) → IsAt k w → (s : List Item) (l : List Mark) → Ends k l → trace (level k ∷ s) (tokens w ++ l) ≡ counted (opens (held s) w) (trace s l)
  way_traced zero (a_number p w) a s l e = refl
  way_traced zero (a_negated p q w) a s l e = refl
  way_traced zero (a_word p m) a s l e = ap (count (held s)) (passes name_rest s l refl e.name)
  way_traced zero (a_field p m q r f) a s l e = refl
  way_traced zero (an_index p m q w r) a s l e = ap (count (held s)) (ap (count (suc (held s))) (in_brackets fixed.CloseBracket w (way_traced top w a) r s l refl refl refl))
  way_traced zero (a_call p m q w r) a s l e = ap (count (held s)) (ap (count (suc (held s))) (args_traced w a r s l))
  way_traced zero (in_parens p w q) a s l e = ap (count (suc (held s))) (in_brackets fixed.CloseParen w (way_traced top w a) q s l refl refl refl)
  way_traced zero (operated p o w) a s l e =
      goes (level 0) (level 0 ∷ ended ∷ []) s (un_mark o p) (tokens w ++ l) (op_row o w l a.1 a.0) ∙ ap (count (suc (held s))) (way_traced zero w a.1 (ended ∷ s) l e ∙ ap (counted (opens (suc (held s)) w)) (ended_passes s l))
  way_traced zero (level_of w m) a s l e = absurd a
  way_traced (suc k) (a_number p w) a s l e = absurd a
  way_traced (suc k) (a_negated p q w) a s l e = absurd a
  way_traced (suc k) (a_word p m) a s l e = absurd a
  way_traced (suc k) (a_field p m q r f) a s l e = absurd a
  way_traced (suc k) (an_index p m q w r) a s l e = absurd a
  way_traced (suc k) (a_call p m q w r) a s l e = absurd a
  way_traced (suc k) (in_parens p w q) a s l e = absurd a
  way_traced (suc k) (operated p o w) a s l e = absurd a
  way_traced (suc k) (level_of w m) a s l e =
      lower k s ((tokens w ++ more_tokens m) ++ l)
      ∙ ap (trace (level k ∷ more k ∷ s)) (append_assoc (tokens w) (more_tokens m) l)
      ∙ way_traced k w a.0 (more k ∷ s) (more_tokens m ++ l) (ends_more k m l a.1 e)
      ∙ ap (counted (opens (held s) w)) (more_traced k m a.1 s l e)
      ∙ sym (counted_append (opens (held s) w) (more_opens (held s) m) (trace s l))

  pub more_traced : (k : ℕ) (m : More) → IsAfter k m → (s : List Item) (l : List Mark) → Ends (suc k) l → trace (more k ∷ s) (more_tokens m ++ l) ≡ counted (more_opens (held s) m) (trace s l)
  more_traced k stop a s l e = passes (more k) s l refl (e.op k (omega arith))
  more_traced k (and_then o p w m) a s l e =
      goes (more k) (level k ∷ more k ∷ []) s (bin_mark o p) ((tokens w ++ more_tokens m) ++ l) (rank_row k o a.0)
      ∙ ap (λ (x : List Mark). count (held s) (trace (level k ∷ more k ∷ s) x)) (append_assoc (tokens w) (more_tokens m) l)
      ∙ ap (count (held s)) (way_traced k w a.1 (more k ∷ s) (more_tokens m ++ l) (ends_more k m l a.2 e) ∙ ap (counted (opens (held s) w)) (more_traced k m a.2 s l e) ∙ sym (counted_append (opens (held s) w) (more_opens (held s) m) (trace s l)))
  more_traced k (if_so p w q v) a s l e = chosen k a.0 p w q v (way_traced top w a.1) (way_traced top v a.2) s l e

  args_traced : (w : Args) → AreArgs w → (r : ℕ) (s : List Item) (l : List Mark) → trace (args ∷ s) ((arg_tokens w ++ sign fixed.CloseParen r ∷ []) ++ l) ≡ counted (arg_opens (suc (held s)) w ++ suc (held s) ∷ []) (trace s l)
  args_traced no_args a r s l = ap (count (suc (held s))) (ended_passes s l)
  args_traced (some_args w m) a r s l =
      begun w a.0 s (more_arg_tokens m) (sign fixed.CloseParen r ∷ []) l
      ∙ ap (trace (level top ∷ more_args ∷ close fixed.CloseParen ∷ s)) (append_assoc (tokens w ++ more_arg_tokens m) (sign fixed.CloseParen r ∷ []) l ∙ append_assoc (tokens w) (more_arg_tokens m) (sign fixed.CloseParen r ∷ l))
      ∙ way_traced top w a.0 (more_args ∷ close fixed.CloseParen ∷ s) (more_arg_tokens m ++ sign fixed.CloseParen r ∷ l) (ends_arg m r l)
      ∙ ap (counted (opens (suc (held s)) w)) (more_args_traced m a.1 r s l)
      ∙ sym (counted_append (opens (suc (held s)) w) (more_arg_opens (suc (held s)) m ++ suc (held s) ∷ []) (trace s l))
      ∙ ap (λ (x : List ℕ). counted x (trace s l)) (sym (append_assoc (opens (suc (held s)) w) (more_arg_opens (suc (held s)) m) (suc (held s) ∷ [])))

  more_args_traced : (m : MoreArgs) → AreMoreArgs m → (r : ℕ) (s : List Item) (l : List Mark) → trace (more_args ∷ close fixed.CloseParen ∷ s) (more_arg_tokens m ++ sign fixed.CloseParen r ∷ l) ≡ counted (more_arg_opens (suc (held s)) m ++ suc (held s) ∷ []) (trace s l)
  more_args_traced last_arg a r s l = ap (count (suc (held s))) (ended_passes s l)
  more_args_traced (next_arg p w m) a r s l =
      ap (λ (x : List Mark). count (suc (held s)) (trace (level top ∷ more_args ∷ close fixed.CloseParen ∷ s) x)) (append_assoc (tokens w) (more_arg_tokens m) (sign fixed.CloseParen r ∷ l))
      ∙ ap (count (suc (held s))) (way_traced top w a.0 (more_args ∷ close fixed.CloseParen ∷ s) (more_arg_tokens m ++ sign fixed.CloseParen r ∷ l) (ends_arg m r l) ∙ ap (counted (opens (suc (held s)) w)) (more_args_traced m a.1 r s l) ∙ sym (counted_append (opens (suc (held s)) w) (more_arg_opens (suc (held s)) m ++ suc (held s) ∷ []) (trace s l)) ∙ ap (λ (x : List ℕ). counted x (trace s l)) (sym (append_assoc (opens (suc (held s)) w) (more_arg_opens (suc (held s)) m) (suc (held s) ∷ []))))
