-- Among entries there is a first one of the least rank, and it is served.
use Rattle.std.proofs.Common.{◌≡◌, ℤ, ◌-◌, Bool, false, true, List, [], ◌∷◌, ◌++◌, length, map, refl, sym, ◌∙◌, ap, subst, arith}
use Rattle.std.proofs.lemmas.Int.{ints}
use Rattle.std.proofs.lemmas.List.{length-append, map-id}
use Rattle.std.specs.Prelude.{int_lt}
use Rattle.std.specs.List.{AllByRecursion}
use Rattle.pifo_rank.specs.Queue.{Held, rest}
use Rattle.pifo_rank.specs.Serves.{ServesFirstOfLeast}
use Rattle.pifo_rank.proofs.Arrivals.{all_in}
use Rattle.pifo_rank.proofs.Serving.{Serves, serves}

all_weaker : {X : Type 0} (P Q : X → Type 0) → ((x : X) → P x → Q x) → (xs : List X) → AllByRecursion P xs → AllByRecursion Q xs
all_weaker P Q f [] all = tt
all_weaker P Q f (x ∷ xs) all = (f x all.0, all_weaker P Q f xs all.1)

all_append : {X : Type 0} (P : X → Type 0) (xs ys : List X) → AllByRecursion P xs → AllByRecursion P ys → AllByRecursion P (xs ++ ys)
all_append P [] ys all more = more
all_append P (x ∷ xs) ys all more = (all.0, all_append P xs ys all.1 more)

not_itself : (x : ℤ) → int_lt x x ≡ false
not_itself x = by (int_lt x x) refl
  where
    by : (t : Bool) → int_lt x x ≡ t → t ≡ false
    by true e = absurd (omega (arith, ints))
    by false e = refl

-- x is below y, and z is not below y
not_back : (x y : ℤ) → int_lt x y ≡ true → int_lt y x ≡ false
not_back x y h = by (int_lt y x) refl
  where
    by : (t : Bool) → int_lt y x ≡ t → t ≡ false
    by true e = absurd (omega (arith, ints))
    by false e = refl

not_below : (x y z : ℤ) → int_lt x y ≡ false → int_lt z x ≡ false → int_lt z y ≡ false
not_below x y z h k = by (int_lt z y) refl
  where
    by : (t : Bool) → int_lt z y ≡ t → t ≡ false
    by true e = absurd (omega (arith, ints))
    by false e = refl

-- the first of the least rank among entries of which there is one at least
record First (entries : List Held) : Type 0 where
  pub first : Held
  pub before : List Held
  pub after : List Held
  pub whole : entries ≡ before ++ first ∷ after
  pub greater : AllByRecursion (λ (b : Held). int_lt first.rank b.rank ≡ true) before
  pub no_lesser : AllByRecursion (λ (a : Held). int_lt a.rank first.rank ≡ false) after

-- none of them has a lesser rank
all_no_lesser : (entries : List Held) (p : First entries) → AllByRecursion (λ (z : Held). int_lt z.rank p.first.rank ≡ false) (p.before ++ p.first ∷ p.after)
all_no_lesser entries p =
    all_append (λ (z : Held). int_lt z.rank p.first.rank ≡ false) p.before (p.first ∷ p.after)
    (all_weaker (λ (b : Held). int_lt p.first.rank b.rank ≡ true) (λ (z : Held). int_lt z.rank p.first.rank ≡ false) (λ z h. not_back p.first.rank z.rank h) p.before p.greater)
    (not_itself p.first.rank, p.no_lesser)

first_of : (e : Held) (entries : List Held) → First (e ∷ entries)
first_of e [] = record { first = e; before = []; after = []; whole = refl; greater = tt; no_lesser = tt }
first_of e (f ∷ entries) = by (first_of f entries) (int_lt (first_of f entries).first.rank e.rank) refl
  where
    by : (p : First (f ∷ entries)) (t : Bool) → int_lt p.first.rank e.rank ≡ t → First (e ∷ (f ∷ entries))
    by p true h = record {
      first = p.first;
      before = e ∷ p.before;
      after = p.after;
      whole = ap (λ (l : List Held). e ∷ l) p.whole;
      greater = (h, p.greater);
      no_lesser = p.no_lesser;
    }
    by p false h = record {
      first = e;
      before = [];
      after = f ∷ entries;
      whole = refl;
      greater = tt;
      no_lesser =
          subst (λ (l : List Held). AllByRecursion (λ (a : Held). int_lt a.rank e.rank ≡ false) l) (sym p.whole)
          (all_weaker (λ (z : Held). int_lt z.rank p.first.rank ≡ false) (λ (z : Held). int_lt z.rank e.rank ≡ false)
          (λ z k. not_below p.first.rank e.rank z.rank h k) (p.before ++ p.first ∷ p.after) (all_no_lesser (f ∷ entries) p));
    }

first_serves : (entries : List Held) (p : First entries) → Serves entries p.first (p.before ++ p.after)
first_serves entries p =
    let is : Serves (map (λ (e : Held). e) (p.before ++ p.first ∷ p.after)) p.first (map (λ (e : Held). e) (p.before ++ p.after)) =
    serves (λ (e : Held). e) p.before p.after p.first
    (λ z i. all_in (λ (z : Held). int_lt z.rank p.first.rank ≡ false) (p.before ++ p.first ∷ p.after) (all_no_lesser entries p) z i)
    (λ z i. all_in (λ (b : Held). int_lt p.first.rank b.rank ≡ true) p.before p.greater z i) in
    subst (λ (l : List Held). Serves l p.first (p.before ++ p.after)) (map-id (p.before ++ p.first ∷ p.after) ∙ sym p.whole)
    (subst (λ (l : List Held). Serves (map (λ (e : Held). e) (p.before ++ p.first ∷ p.after)) p.first l) (map-id (p.before ++ p.after)) is)

pub serves_first : (entries : List Held) → ServesFirstOfLeast entries
serves_first [] = (refl, refl)
serves_first (e ∷ entries) =
    let p : First (e ∷ entries) = first_of e entries in
    let s : Serves (e ∷ entries) p.first (p.before ++ p.after) = first_serves (e ∷ entries) p in (
      p.first,
      s.first,
      record {
        before = p.before;
        after = p.after;
        entries_are = p.whole;
        others_are = s.stay;
        greater = p.greater;
        no_lesser = p.no_lesser;
      },
    )

-- one fewer stay
pub one_fewer : (entries : List Held) → length (rest entries) ≡ length entries - 1
one_fewer [] = refl
one_fewer (e ∷ entries) =
    let p : First (e ∷ entries) = first_of e entries in
    let s : Serves (e ∷ entries) p.first (p.before ++ p.after) = first_serves (e ∷ entries) p in
    omega (arith, ap length s.stay, ap length p.whole, length-append p.before p.after, length-append p.before (p.first ∷ p.after))
