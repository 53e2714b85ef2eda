-- Tokens have one fault at most.
use Rattle.std.proofs.Common.{◌≡◌, ℕ, zero, suc, ◌+◌, ◌<◌, ◌≤◌, Bool, true, false, List, [], ◌∷◌, ◌++◌, map, take, length, refl, sym, ap, ◌∙◌, arith}
use Rattle.std.proofs.lemmas.Bool.{leb-true, leb-false}
use Rattle.std.specs.Prelude.{nat_le}
use Rattle.dom_lexer.specs.declared.token.Token.{Token}
use Rattle.dom_parser.specs.declared.faults.Fault.{Fault}
use Rattle.dom_parser.specs.declared.faults.Fault.TheVariants as place
use Rattle.dom_parser.specs.declared.faults.ParseFault.{ParseFault}
use Rattle.dom_parser.specs.declared.faults.ParseFault.TheVariants as answer
use Rattle.dom_parser.specs.Tokens.{Mark, mark, stands, is_number, number_first}
use Rattle.dom_parser.specs.Grammar.{BeginProgram, program_opens}
use Rattle.dom_parser.specs.Faults.{located_at, BeginsWith, IsFirstOver, OpensTooMany, RulesOut, Rules, IsFirstFault}

-- what begins with q tokens begins with fewer; what comes next is then the next of them
front_less : (k q : ℕ) (l : List Token) (rest : List Mark) → k ≤ q → (more : List Mark) × (map mark (take q l) ++ rest ≡ map mark (take k l) ++ more) × (k < q → k < length l → number_first more ≡ is_number (stands l k))
front_less zero zero l rest h = (rest, refl, λ a b. absurd (omega arith))
front_less zero (suc q) [] rest h = (rest, refl, λ a b. absurd (omega arith))
front_less zero (suc q) (t ∷ l) rest h = (mark t ∷ (map mark (take q l) ++ rest), refl, λ a b. refl)
front_less (suc k) zero l rest h = absurd (omega arith)
front_less (suc k) (suc q) [] rest h = (rest, refl, λ a b. absurd (omega arith))
front_less (suc k) (suc q) (t ∷ l) rest h = let f = front_less k q l rest (omega arith) in (f.0, ap (λ (x : List Mark). mark t ∷ x) f.1, λ a b. f.2 (omega arith) (omega arith))

begins_less : (l : List Token) (k q : ℕ) → k ≤ q → BeginProgram (take q l) → BeginProgram (take k l)
begins_less l k q h v = let f = front_less k q l v.2 h in (v.0, v.1, f.0, v.3 ∙ f.1)

-- one place of each kind, and none of both

two_bad : (l : List Token) (p q : ℕ) → p < q → RulesOut l p → RulesOut l q → ⊥
two_bad l p q h a b = let w = b.there in a.with_it (omega arith) (begins_less l (suc p) q (omega arith) b.before)

bad_and_deep : (l : List Token) (p q : ℕ) → RulesOut l p → OpensTooMany l q → ⊥
bad_and_deep l p q a o = go (nat_le p q) refl
  where
    go : (b : Bool) → nat_le p q ≡ b → ⊥
    go true e =
        let h = leb-true p q e in let w = o.there in let b = o.some.1 in
        a.with_it (omega arith) (begins_less l (suc p) (suc q) (omega arith) (o.some.0, b.is_program, b.rest, b.front))
    go false e = a.within q (leb-false p q e) o

apart : (p q : ℕ) (ns : List ℕ) → p < q → IsFirstOver p ns → IsFirstOver q ns → ⊥
apart p q [] h x y = x
apart zero zero (n ∷ ns) h x y = absurd (omega arith)
apart zero (suc q) (n ∷ ns) h x y = absurd (let a : n ≡ 65 = x in let b : n ≤ 64 = y.0 in omega arith)
apart (suc p) zero (n ∷ ns) h x y = absurd (omega arith)
apart (suc p) (suc q) (n ∷ ns) h x y = apart p q ns (omega arith) x.1 y.1

two_deep : (l : List Token) (p q : ℕ) → p < q → OpensTooMany l p → OpensTooMany l q → ⊥
two_deep l p q h a o =
    let b = o.some.1 in let w = o.there in
    let one : suc p ≡ p + 1 = omega arith in
    let f = front_less (suc p) (suc q) l b.rest (omega arith) in
    let c : BeginsWith l p o.some.0 = record { is_program = b.is_program; rest = f.0; front = b.front ∙ f.1; operator = λ m. f.2 (omega arith) (omega arith) ∙ ap (λ (x : ℕ). is_number (stands l x)) one ∙ a.operator m } in
    apart p q (program_opens o.some.0) h (a.every o.some.0 c) (o.every o.some.0 b)

same : (p q : ℕ) → (p < q → ⊥) → (q < p → ⊥) → p ≡ q
same p q x y = go (nat_le p q) (nat_le q p) refl refl
  where
    go : (b c : Bool) → nat_le p q ≡ b → nat_le q p ≡ c → p ≡ q
    go true true e f = let g = leb-true p q e in let h = leb-true q p f in omega arith
    go true false e f = absurd (x (leb-false q p f))
    go false c e f = absurd (y (leb-false p q e))

one_place : (l : List Token) (f g : Fault) → Rules l f → Rules l g → (f ≡ place.Memory → ⊥) → (g ≡ place.Memory → ⊥) → f ≡ g
one_place l place.Memory g a b x y = absurd (x refl)
one_place l (place.Unexpected p) place.Memory a b x y = absurd (y refl)
one_place l (place.TooNested p) place.Memory a b x y = absurd (y refl)
one_place l (place.Unexpected p) (place.Unexpected q) a b x y = ap place.Unexpected (same p q (λ h. two_bad l p q h a b) (λ h. two_bad l q p h b a))
one_place l (place.Unexpected p) (place.TooNested q) a b x y = absurd (bad_and_deep l p q a b)
one_place l (place.TooNested p) (place.Unexpected q) a b x y = absurd (bad_and_deep l q p b a)
one_place l (place.TooNested p) (place.TooNested q) a b x y = ap place.TooNested (same p q (λ h. two_deep l p q h a b) (λ h. two_deep l q p h b a))

pub one_answer : (l : List Token) (end : ℕ) (f g : ParseFault) → IsFirstFault l end f → IsFirstFault l end g → (f ≡ answer.Memory → ⊥) → (g ≡ answer.Memory → ⊥) → f ≡ g
one_answer l end f g a b x y =
    a.located ∙ ap (located_at l end) (one_place l a.fault b.fault a.rules b.rules (λ m. x (a.located ∙ ap (located_at l end) m)) (λ m. y (b.located ∙ ap (located_at l end) m))) ∙ sym b.located
