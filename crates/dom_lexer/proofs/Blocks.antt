-- The end of a comment.
use Rattle.std.proofs.Common.{◌≡◌, ℕ, suc, ◌+◌, ◌<◌, Bool, true, false, ◌&&◌, ◌||◌, ◌==◌, nat_eq, if◌then◌else◌, List, [], ◌∷◌, ◌++◌, length, take, drop, Option, Some, None, refl, sym, ap, ◌∙◌, arith, drop-cons, add-one}
use Rattle.std.proofs.lemmas.Bool.{and_parts, and_from, eqb-true, eq-eqb}
use Rattle.std.specs.Cmp.Lexicographic.{pointwise}
use Rattle.dom_lexer.specs.Text.{starts, close_mark, has_mark}
use Rattle.dom_lexer.specs.inner.Next.{close_len, one_more}
use Rattle.dom_lexer.proofs.SoFar.{plus}

plus_more : (at : ℕ) (o : Option ℕ) → plus at (one_more o) ≡ plus (at + 1) o
plus_more at None = refl
plus_more at (Some n) = ap Some (omega arith)

pub close_step : (text : List ℕ) (at : ℕ) → at < length text → starts close_mark (drop at text) ≡ false → close_len text ≡ plus at (close_len (drop at text)) → close_len text ≡ plus (at + 1) (close_len (drop (at + 1) text))
close_step text at h other e =
    let d = drop-cons text at 0 h in
    let n = rw d at other in
    e ∙ ap (λ l. plus at (close_len l)) d ∙ rw n (plus_more at (close_len (drop (suc at) text))) ∙ ap (λ k. plus (at + 1) (close_len (drop k text))) (sym (add-one at))

-- bytes at the front
pub starts_std : (mark text : List ℕ) → pointwise nat_eq mark (take (length mark) text) ≡ starts mark text
starts_std [] text = refl
starts_std (b ∷ bs) [] = refl
starts_std (b ∷ bs) (c ∷ text) = ap (λ t. (b == c) && t) (starts_std bs text)

pub starts_split : (mark text : List ℕ) → starts mark text ≡ true → text ≡ mark ++ drop (length mark) text
starts_split [] text h = refl
starts_split (b ∷ bs) [] h = absurd (cc)
starts_split (b ∷ bs) (c ∷ text) h =
    let both = and_parts (b == c) (starts bs text) h in
    let e : b ≡ c = eqb-true b c both.0 in
    ap (λ n. n ∷ text) (sym e) ∙ ap (λ l. b ∷ l) (starts_split bs text both.1)

pub starts_front : (mark after : List ℕ) → starts mark (mark ++ after) ≡ true
starts_front [] after = refl
starts_front (b ∷ bs) after = and_from _ _ (eq-eqb b b refl) (starts_front bs after)

pub starts_more : (mark text after : List ℕ) → starts mark text ≡ true → starts mark (text ++ after) ≡ true
starts_more [] text after h = refl
starts_more (b ∷ bs) [] after h = absurd (cc)
starts_more (b ∷ bs) (c ∷ text) after h =
    let both = and_parts (b == c) (starts bs text) h in
    and_from _ _ both.0 (starts_more bs text after both.1)

starts_less : (mark text after : List ℕ) → starts mark (text ++ after) ≡ false → starts mark text ≡ false
starts_less mark text after h = by_case (starts mark text) refl
  where
    by_case : (t : Bool) → starts mark text ≡ t → t ≡ false
    by_case true e = absurd (let m = starts_more mark text after e in cc)
    by_case false e = refl

-- a comment's bytes before its end
pub record Closed (text : List ℕ) (n : ℕ) : Type 0 where
  pub body : List ℕ
  pub after : List ℕ
  pub whole : text ≡ body ++ (close_mark ++ after)
  pub size : length body + 2 ≡ n
  pub clear : has_mark close_mark body ≡ false

more_some : (o : Option ℕ) (n : ℕ) → one_more o ≡ Some n → (m : ℕ) × ((o ≡ Some m) × (m + 1 ≡ n))
more_some None n e = absurd (cc)
more_some (Some m) n e = (m, (refl, (cc)))

more_none : (o : Option ℕ) → one_more o ≡ None → o ≡ None
more_none None e = refl
more_none (Some m) e = absurd (cc)

or_from : (x y : Bool) → x ≡ false → y ≡ false → (x || y) ≡ false
or_from x y e f = rw e f

pub close_found : (text : List ℕ) (n : ℕ) → close_len text ≡ Some n → Closed text n
close_found [] n e = absurd (cc)
close_found (b ∷ bs) n e = by_case (close_found bs) (starts close_mark (b ∷ bs)) refl e
  where
    by_case : ((m : ℕ) → close_len bs ≡ Some m → Closed bs m) → (t : Bool) → starts close_mark (b ∷ bs) ≡ t → (if t then Some 2 else one_more (close_len bs)) ≡ Some n → Closed (b ∷ bs) n
    by_case more true s f = record { body = []; after = drop 2 (b ∷ bs); whole = starts_split close_mark (b ∷ bs) s; size = (cc); clear = refl }
    by_case more false s f =
        let some = more_some (close_len bs) n f in
        let rest = more some.0 some.1.0 in
        let same : b ∷ bs ≡ (b ∷ rest.body) ++ (close_mark ++ rest.after) = ap (λ l. b ∷ l) rest.whole in
        record {
          body = b ∷ rest.body;
          after = rest.after;
          whole = same;
          size = (let a = rest.size in let c = some.1.1 in omega arith);
          clear = or_from _ _ (starts_less close_mark (b ∷ rest.body) (close_mark ++ rest.after) (ap (starts close_mark) (sym same) ∙ s)) rest.clear;
        }

pub close_none : (text : List ℕ) → close_len text ≡ None → has_mark close_mark text ≡ false
close_none [] e = refl
close_none (b ∷ bs) e = by_case (close_none bs) (starts close_mark (b ∷ bs)) refl e
  where
    by_case : (close_len bs ≡ None → has_mark close_mark bs ≡ false) → (t : Bool) → starts close_mark (b ∷ bs) ≡ t → (if t then Some 2 else one_more (close_len bs)) ≡ None → has_mark close_mark (b ∷ bs) ≡ false
    by_case more true s f = absurd (cc)
    by_case more false s f = or_from _ _ s (more (more_none (close_len bs) f))
