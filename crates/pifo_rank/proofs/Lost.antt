-- Over cycles no packet is lost or made.
use Rattle.std.proofs.Common.{◌≡◌, ℕ, Bool, false, true, cond, ltb, Option, None, Some, List, [], ◌∷◌, ◌++◌, length, map, refl, sym, ◌∙◌, ap, subst, arith, append-nil, append_assoc}
use Rattle.std.proofs.lemmas.List.{map-append}
use Rattle.std.proofs.lemmas.List.Sorted.{IsPermutation-append_comm, IsPermutation-append_left, IsPermutation-append_right, IsPermutation-map, IsPermutation-middle, IsPermutation-refl, IsPermutation-trans}
use Rattle.std.specs.List.Sorted.{IsPermutation}
use Rattle.std.specs.Option.{option_map}
use Rattle.banzai_config.specs.Action.{Entry}
use Rattle.banzai_machine.specs.Alone.{packets_of}
use Rattle.pifo_rank.specs.Queue.{Held, rest}
use Rattle.pifo_rank.specs.Run.{Turn, dropped_in, held_after, joined, kept_in, ranked_by, ranked_from, served_in, turn}
use Rattle.pifo_rank.specs.Serves.{ServesFirstOfLeast, packets_in}
use Rattle.pifo_rank.proofs.Least.{serves_first}

abbrev words_in : List Held → List (List ℕ)
words_in held = map (λ (e : Held). e.words) held

abbrev one : Entry → List (List ℕ)
one entry = packets_of (entry ∷ [])

one_more : (entry : Entry) (entries : List Entry) → packets_of (entry ∷ entries) ≡ one entry ++ packets_of entries
one_more None entries = refl
one_more (Some words) entries = refl

same : {xs ys : List (List ℕ)} → xs ≡ ys → IsPermutation xs ys
same {xs} {ys} is = subst (λ l. IsPermutation xs l) is (IsPermutation-refl xs)

-- the arrival joins or is dropped
module _ (room rank : ℕ) where
  joins : (held : List Held) (arrival : Entry) → IsPermutation (words_in held ++ one arrival) (one (dropped_in room held arrival) ++ words_in (joined room rank held arrival))
  joins held None = same (append-nil (words_in held))
  joins held (Some words) = by (ltb (length held) room)
    where
      by : (t : Bool) → IsPermutation (words_in held ++ words ∷ []) (one (cond t None (Some words)) ++ words_in (cond t (held ++ ranked_by rank words ∷ []) held))
      by true = same (sym (map-append (λ (e : Held). e.words) held (ranked_by rank words ∷ [])))
      by false = IsPermutation-append_comm (words_in held) (words ∷ [])

-- what is served leaves
leaves : (held : List Held) → ServesFirstOfLeast held → IsPermutation (words_in held) (one (served_in held true) ++ words_in (rest held))
leaves [] is = IsPermutation-refl []
leaves (e ∷ held) (first, serves, is) =
    subst (λ (o : Entry). IsPermutation (words_in (e ∷ held)) (one o ++ words_in (rest (e ∷ held)))) (sym (ap (λ o. served_words o) serves))
    (subst (λ (l : List Held). IsPermutation (words_in (e ∷ held)) (first.words ∷ words_in l)) (sym is.others_are)
    (subst (λ (l : List Held). IsPermutation (words_in l) (first.words ∷ words_in (is.before ++ is.after))) (sym is.entries_are)
    (IsPermutation-map (λ (e : Held). e.words) (is.before ++ first ∷ is.after) (first ∷ (is.before ++ is.after)) (IsPermutation-middle is.before first is.after))))
  where
    served_words : Option Held → Entry
    served_words o = option_map (λ (e : Held). e.words) o

serves : (held : List Held) (serve : Bool) → IsPermutation (words_in held) (one (served_in held serve) ++ words_in (kept_in held serve))
serves held true = leaves held (serves_first held)
serves held false = IsPermutation-refl (words_in held)

past : (xs ys zs : List (List ℕ)) → IsPermutation (xs ++ (ys ++ zs)) (ys ++ (xs ++ zs))
past xs ys zs =
    IsPermutation-trans _ _ _ (same (sym (append_assoc xs ys zs)))
    (IsPermutation-trans _ _ _ (IsPermutation-append_left zs (xs ++ ys) (ys ++ xs) (IsPermutation-append_comm xs ys)) (same (append_assoc ys xs zs)))

module _ (room rank : ℕ) where
  keeps : (held : List Held) (arrival : Entry) (serve : Bool)
      → IsPermutation (words_in held ++ one arrival) (one (turn room rank held arrival serve).dropped ++ (one (turn room rank held arrival serve).served ++ words_in (turn room rank held arrival serve).held))
  keeps held arrival serve =
      IsPermutation-trans _ _ _ (joins room rank held arrival)
      (IsPermutation-append_right (one (dropped_in room held arrival)) _ _ (serves (joined room rank held arrival) serve))

  pub none_lost : (held : List Held) (arrivals : List Entry) (serving : List Bool) → length serving ≡ length arrivals
      → IsPermutation (words_in held ++ packets_of arrivals) (packets_in held (ranked_from room rank held arrivals serving))
  none_lost held [] [] size = same (append-nil (words_in held))
  none_lost held [] (s ∷ serving) size = absurd (omega arith)
  none_lost held (a ∷ arrivals) [] size = absurd (omega arith)
  none_lost held (a ∷ arrivals) (s ∷ serving) size =
      let t : Turn = turn room rank held a s in
      let turns : List Turn = ranked_from room rank t.held arrivals serving in
      let less : length serving ≡ length arrivals = omega arith in
      let dropped : List (List ℕ) = packets_of (map (λ (t : Turn). t.dropped) turns) in
      let served : List (List ℕ) = packets_of (map (λ (t : Turn). t.served) turns) in
      let last : List (List ℕ) = words_in (held_after t.held turns) in
      let arrived : List (List ℕ) = packets_of arrivals in
      let first : (words_in held ++ packets_of (a ∷ arrivals)) ≡ ((words_in held ++ one a) ++ arrived) =
      ap (λ (l : List (List ℕ)). words_in held ++ l) (one_more a arrivals) ∙ sym (append_assoc (words_in held) (one a) arrived) in
      let apart : ((one t.dropped ++ (one t.served ++ words_in t.held)) ++ arrived) ≡ (one t.dropped ++ (one t.served ++ (words_in t.held ++ arrived))) =
      append_assoc (one t.dropped) (one t.served ++ words_in t.held) arrived
      ∙ ap (λ (l : List (List ℕ)). one t.dropped ++ l) (append_assoc (one t.served) (words_in t.held) arrived) in
      let whole : (one t.dropped ++ (dropped ++ (one t.served ++ (served ++ last)))) ≡ packets_in held (t ∷ turns) =
      sym (append_assoc (one t.dropped) dropped (one t.served ++ (served ++ last)))
      ∙ ap (λ (l : List (List ℕ)). (one t.dropped ++ dropped) ++ l) (sym (append_assoc (one t.served) served last))
      ∙ ap (λ (l : List (List ℕ)). l ++ ((one t.served ++ served) ++ last)) (sym (one_more t.dropped (map (λ (t : Turn). t.dropped) turns)))
      ∙ ap (λ (l : List (List ℕ)). packets_of (t.dropped ∷ map (λ (t : Turn). t.dropped) turns) ++ (l ++ last)) (sym (one_more t.served (map (λ (t : Turn). t.served) turns))) in
      IsPermutation-trans _ _ _ (same first)
      (IsPermutation-trans _ _ _ (IsPermutation-append_left arrived _ _ (keeps held a s))
      (IsPermutation-trans _ _ _ (same apart)
      (IsPermutation-trans _ _ _ (IsPermutation-append_right (one t.dropped) _ _ (IsPermutation-append_right (one t.served) _ _ (none_lost t.held arrivals serving less)))
      (IsPermutation-trans _ _ _ (IsPermutation-append_right (one t.dropped) _ _ (past (one t.served) dropped (served ++ last)))
      (same whole)))))
