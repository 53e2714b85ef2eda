-- One packet through stages whose atoms are right.
use Rattle.std.proofs.Common.{◌≡◌, ℕ, zero, suc, ◌+◌, ◌<◌, List, [], ◌∷◌, ◌++◌, length, map, set, refl, sym, ap, ◌∙◌, subst, arith, ◌≢◌, ◌⊎◌, inl, inr, ⊎_elim, get_or-set_other}
use Rattle.std.proofs.lemmas.Bool.{cases_eq}
use Rattle.std.proofs.lemmas.List.{length-set}
use Rattle.std.specs.Prelude.{slice_index}
use Rattle.std.specs.List.{flat_map, AllByRecursion as Every}
use Rattle.dom_words.specs.State.{array_of}
use Rattle.codelets.specs.Lists.{IsIn, AreDistinct}
use Rattle.banzai_config.specs.Action.{Arrays, Write, Export, store, put}
use Rattle.compile_law.proofs.Front.{stage_run, front, IsRight, AreRight, owned_by, right_export}
use Rattle.compile_law.proofs.Every.{Every-append, Every-left, Every-right, Every-weaker, Every-swap, Every-zip, Every-zip3, Every-always, distinct_left, distinct_right, distinct_first}
use Rattle.compile_law.proofs.Store.{store-append, store-other, store-same}

pub length-put : (es : List Export) (words : List ℕ) → length (put es words) ≡ length words
length-put [] words = refl
length-put (e ∷ es) words = length-put es (set words e.to e.word) ∙ length-set words e.to e.word

index_set : (words : List ℕ) (c w : ℕ) → c < length words → slice_index (set words c w) c ≡ w
index_set [] c w h = absurd (omega arith)
index_set (x ∷ words) zero w h = refl
index_set (x ∷ words) (suc c) w h = index_set words c w (omega arith)

index_set_other : (words : List ℕ) (c d w : ℕ) → d ≢ c → slice_index (set words c w) d ≡ slice_index words d
index_set_other words c d w ne = get_or-set_other words c d w 0 ne

module _ (right : ℕ → ℕ) where
  -- right words put into containers leave right what was right
  put_kept : (cs : List ℕ) (words : List ℕ) (d : ℕ) → Every (λ c. c < length words) cs → slice_index words d ≡ right d
      → slice_index (put (map (right_export right) cs) words) d ≡ right d
  put_kept [] words d p e = e
  put_kept (c ∷ cs) words d p e = elim (cases_eq d c) [
    | inl is ↦ put_kept cs (set words c (right c)) d (fits cs p.1) (ap (slice_index (set words c (right c))) is ∙ index_set words c (right c) p.0 ∙ ap right (sym is))
    | inr ne ↦ put_kept cs (set words c (right c)) d (fits cs p.1) (index_set_other words c d (right c) ne ∙ e)
  ]
    where
      fits : (bs : List ℕ) → Every (λ b. b < length words) bs → Every (λ b. b < length (set words c (right c))) bs
      fits bs q = Every-weaker (λ b. b < length words) (λ b. b < length (set words c (right c))) (λ b h. omega (arith, length-set words c (right c), h)) bs q

  -- and make right what they name
  put_made : (cs : List ℕ) (words : List ℕ) (d : ℕ) → Every (λ c. c < length words) cs → IsIn d cs
      → slice_index (put (map (right_export right) cs) words) d ≡ right d
  put_made [] words d p i = absurd i
  put_made (c ∷ cs) words d p (inl is) = put_kept cs (set words c (right c)) d (fits cs p.1) (ap (slice_index (set words c (right c))) is ∙ index_set words c (right c) p.0 ∙ ap right (sym is))
    where
      fits : (bs : List ℕ) → Every (λ b. b < length words) bs → Every (λ b. b < length (set words c (right c))) bs
      fits bs q = Every-weaker (λ b. b < length words) (λ b. b < length (set words c (right c))) (λ b h. omega (arith, length-set words c (right c), h)) bs q
  put_made (c ∷ cs) words d p (inr i) = put_made cs (set words c (right c)) d (fits cs p.1) i
    where
      fits : (bs : List ℕ) → Every (λ b. b < length words) bs → Every (λ b. b < length (set words c (right c))) bs
      fits bs q = Every-weaker (λ b. b < length words) (λ b. b < length (set words c (right c))) (λ b h. omega (arith, length-set words c (right c), h)) bs q

module _ {T : Type 0} (writes : T → Arrays → List ℕ → List Write) (exports : T → Arrays → List ℕ → List Export) (owns targets : T → List ℕ)
    (right : ℕ → ℕ → ℕ) (before after : Arrays) (size : ℕ) (Known : ℕ → ℕ → Type 0) where
  abbrev Right : ℕ → T → Type 0
  Right k atom = IsRight writes exports owns targets right before after size Known k atom

  abbrev Old : Arrays → List ℕ → Type 0
  Old arrays owned = Every (λ a. array_of arrays a ≡ array_of before a) owned

  abbrev New : Arrays → List ℕ → Type 0
  New arrays owned = Every (λ a. array_of arrays a ≡ array_of after a) owned

  abbrev Ready : ℕ → List ℕ → Type 0
  Ready k words = (c : ℕ) → Known k c → slice_index words c ≡ right k c

  map-append' : (f : ℕ → ℕ) (cs ds : List ℕ) → map (right_export f) (cs ++ ds) ≡ map (right_export f) cs ++ map (right_export f) ds
  map-append' f [] ds = refl
  map-append' f (c ∷ cs) ds = ap (λ (z : List Export). right_export f c ∷ z) (map-append' f cs ds)

  -- the exports of a stage
  stage_shows : (k : ℕ) (atoms : List T) (arrays : Arrays) (words : List ℕ) → length words ≡ size → Ready k words → Every (Right k) atoms → Old arrays (flat_map owns atoms)
      → flat_map (λ t. exports t arrays words) atoms ≡ map (right_export (right (suc k))) (flat_map targets atoms)
  stage_shows k [] arrays words long ready p old = refl
  stage_shows k (t ∷ atoms) arrays words long ready p old =
      let head : exports t arrays words ≡ map (right_export (right (suc k))) (targets t) = p.0.shows arrays words long ready (Every-left _ (owns t) (flat_map owns atoms) old) in
      let rest : flat_map (λ t. exports t arrays words) atoms ≡ map (right_export (right (suc k))) (flat_map targets atoms) =
      stage_shows k atoms arrays words long ready p.1 (Every-right _ (owns t) (flat_map owns atoms) old) in
      ap (λ (z : List Export). z ++ flat_map (λ t. exports t arrays words) atoms) head
      ∙ ap (λ (z : List Export). map (right_export (right (suc k))) (targets t) ++ z) rest
      ∙ sym (map-append' (right (suc k)) (targets t) (flat_map targets atoms))

  stage_within : (k : ℕ) (atoms : List T) → Every (Right k) atoms → Every (λ c. c < size) (flat_map targets atoms)
  stage_within k [] p = tt
  stage_within k (t ∷ atoms) p = Every-append (λ c. c < size) (targets t) (flat_map targets atoms) p.0.within (stage_within k atoms p.1)

  -- the writes of a stage leave other arrays
  stage_elsewhere : (k : ℕ) (atoms : List T) (arrays : Arrays) (words : List ℕ) (j : ℕ) → Every (Right k) atoms → Every (λ a. a ≢ j) (flat_map owns atoms)
      → Every (λ (w : Write). w.array ≢ j) (flat_map (λ t. writes t arrays words) atoms)
  stage_elsewhere k [] arrays words j p ne = tt
  stage_elsewhere k (t ∷ atoms) arrays words j p ne =
      Every-append (λ (w : Write). w.array ≢ j) (writes t arrays words) (flat_map (λ t. writes t arrays words) atoms)
      (p.0.elsewhere arrays words j (Every-left (λ a. a ≢ j) (owns t) (flat_map owns atoms) ne))
      (stage_elsewhere k atoms arrays words j p.1 (Every-right (λ a. a ≢ j) (owns t) (flat_map owns atoms) ne))

  -- all atoms of a stage compute on `arrays`; the writes of those before this one are already in `now`
  stage_leaves : (k : ℕ) (atoms : List T) (arrays now : Arrays) (words : List ℕ) → length words ≡ size → Ready k words → Every (Right k) atoms → AreDistinct (flat_map owns atoms)
      → Old arrays (flat_map owns atoms) → Every (λ a. array_of now a ≡ array_of arrays a) (flat_map owns atoms)
      → New (store (flat_map (λ t. writes t arrays words) atoms) now) (flat_map owns atoms)
  stage_leaves k [] arrays now words long ready p distinct old same = tt
  stage_leaves k (t ∷ atoms) arrays now words long ready p distinct old same =
      let mine : List Write = writes t arrays words in
      let others : List Write = flat_map (λ t. writes t arrays words) atoms in
      let own : List ℕ = owns t in
      let rest : List ℕ = flat_map owns atoms in
      let apart : Every (λ x. Every (λ y. x ≢ y) rest) own = distinct_left own rest distinct in
      let apart' : Every (λ y. Every (λ x. x ≢ y) own) rest = Every-swap (λ x y. x ≢ y) own rest apart in
      let new_mine : New (store mine arrays) own = p.0.leaves arrays words long ready (Every-left _ own rest old) in
      let same_mine : Every (λ a. array_of now a ≡ array_of arrays a) own = Every-left _ own rest same in
      let now' : Arrays = store mine now in
      let mine_all : Every (λ a. (array_of (store mine arrays) a ≡ array_of after a) × (array_of now a ≡ array_of arrays a) × Every (λ y. a ≢ y) rest) own = Every-zip3 _ _ _ own new_mine same_mine apart in
      let first : New (store (mine ++ others) now) own =
      Every-weaker (λ a. (array_of (store mine arrays) a ≡ array_of after a) × (array_of now a ≡ array_of arrays a) × Every (λ y. a ≢ y) rest) (λ a. array_of (store (mine ++ others) now) a ≡ array_of after a)
      (λ a h. ap (λ (z : Arrays). array_of z a) (store-append mine others now)
      ∙ store-other others (store mine now) a (stage_elsewhere k atoms arrays words a p.1 (Every-weaker (λ y. a ≢ y) (λ y. y ≢ a) (λ y ne e. ne (sym e)) rest h.2))
      ∙ store-same mine now arrays a h.1 ∙ h.0) own mine_all in
      let kept : Every (λ a. array_of now' a ≡ array_of arrays a) rest =
      Every-weaker (λ a. (array_of now a ≡ array_of arrays a) × Every (λ x. x ≢ a) own) (λ a. array_of now' a ≡ array_of arrays a)
      (λ a h. store-other mine now a (p.0.elsewhere arrays words a h.1) ∙ h.0) rest (Every-zip _ _ rest (Every-right _ own rest same) apart') in
      let then : New (store others now') rest = stage_leaves k atoms arrays now' words long ready p.1 (distinct_right own rest distinct) (Every-right _ own rest old) kept in
      Every-append _ own rest first (Every-weaker (λ a. array_of (store others now') a ≡ array_of after a) (λ a. array_of (store (mine ++ others) now) a ≡ array_of after a) (λ a h. ap (λ (z : Arrays). array_of z a) (store-append mine others now) ∙ h) rest then)

  pub record IsDone (k : ℕ) (ss : List (List T)) (arrays : Arrays) (words : List ℕ) : Type 0 where
    pub containers : (c : ℕ) → Known (k + length ss) c → slice_index (front writes exports ss arrays words).1 c ≡ right (k + length ss) c
    pub owned : New (front writes exports ss arrays words).0 (owned_by owns ss)
    pub others : (j : ℕ) → Every (λ a. a ≢ j) (owned_by owns ss) → array_of (front writes exports ss arrays words).0 j ≡ array_of arrays j
    pub long : length (front writes exports ss arrays words).1 ≡ size

  stage_right : (k : ℕ) (s : List T) (arrays : Arrays) (words : List ℕ) → length words ≡ size → Ready k words → Every (Right k) s
      → ((c : ℕ) → Known (suc k) c → (Known k c × (right k c ≡ right (suc k) c)) ⊎ IsIn c (flat_map targets s)) → Old arrays (flat_map owns s)
      → Ready (suc k) (stage_run writes exports s arrays words).1
  stage_right k s arrays words long ready p grows old c known =
      let cs : List ℕ = flat_map targets s in
      let is : flat_map (λ t. exports t arrays words) s ≡ map (right_export (right (suc k))) cs = stage_shows k s arrays words long ready p old in
      let fits : Every (λ c. c < length words) cs = Every-weaker (λ c. c < size) (λ c. c < length words) (λ c h. omega (arith, long, h)) cs (stage_within k s p) in
      let now : ((Known k c × (right k c ≡ right (suc k) c)) ⊎ IsIn c cs) → slice_index (put (map (right_export (right (suc k))) cs) words) c ≡ right (suc k) c =
      ⊎_elim (λ (h : Known k c × (right k c ≡ right (suc k) c)). put_kept (right (suc k)) cs words c fits (ready c h.0 ∙ h.1)) (λ i. put_made (right (suc k)) cs words c fits i) in
      ap (λ (z : List Export). slice_index (put z words) c) is ∙ now (grows c known)

  -- from right containers and old arrays, right stages lead to right containers and new arrays
  pub front_right : (k : ℕ) (ss : List (List T)) (arrays : Arrays) (words : List ℕ) → length words ≡ size → Ready k words
      → AreRight writes exports owns targets right before after size Known k ss → AreDistinct (owned_by owns ss) → Old arrays (owned_by owns ss)
      → IsDone k ss arrays words
  front_right k [] arrays words long ready p distinct old =
      let here : k + 0 ≡ k = omega arith in
      record { containers = λ c h. ready c (subst (λ n. Known n c) here h) ∙ ap (λ (n : ℕ). right n c) (sym here); owned = tt; others = λ j h. refl; long = long }
  front_right k (s ∷ ss) arrays words long ready p distinct old =
      let mine : List ℕ = flat_map owns s in
      let rest : List ℕ = owned_by owns ss in
      let apart : Every (λ x. Every (λ y. x ≢ y) rest) mine = distinct_left mine rest distinct in
      let apart' : Every (λ y. Every (λ x. x ≢ y) mine) rest = Every-swap (λ x y. x ≢ y) mine rest apart in
      let a1 : Arrays = (stage_run writes exports s arrays words).0 in
      let w1 : List ℕ = (stage_run writes exports s arrays words).1 in
      let old_mine : Old arrays mine = Every-left _ mine rest old in
      let new_mine : New a1 mine = stage_leaves k s arrays arrays words long ready p.0 (distinct_first mine rest distinct) old_mine (Every-always (λ a. array_of arrays a ≡ array_of arrays a) (λ a. refl) mine) in
      let old_rest : Old a1 rest = Every-weaker (λ a. (array_of arrays a ≡ array_of before a) × Every (λ x. x ≢ a) mine) (λ a. array_of a1 a ≡ array_of before a)
      (λ a h. store-other (flat_map (λ t. writes t arrays words) s) arrays a (stage_elsewhere k s arrays words a p.0 h.1) ∙ h.0) rest (Every-zip _ _ rest (Every-right _ mine rest old) apart') in
      let long1 : length w1 ≡ size = length-put (flat_map (λ t. exports t arrays words) s) words ∙ long in
      let done : IsDone (suc k) ss a1 w1 = front_right (suc k) ss a1 w1 long1 (stage_right k s arrays words long ready p.0 p.1 old_mine) p.2 (distinct_right mine rest distinct) old_rest in
      let number : k + suc (length ss) ≡ suc k + length ss = omega arith in
      record {
        containers = λ c h. done.containers c (subst (λ n. Known n c) number h) ∙ ap (λ (n : ℕ). right n c) (sym number);
        owned = Every-append _ mine rest
            (Every-weaker (λ a. (array_of a1 a ≡ array_of after a) × Every (λ y. a ≢ y) rest) (λ a. array_of (front writes exports ss a1 w1).0 a ≡ array_of after a)
            (λ a h. done.others a (Every-weaker (λ y. a ≢ y) (λ y. y ≢ a) (λ y ne e. ne (sym e)) rest h.1) ∙ h.0) mine (Every-zip _ _ mine new_mine apart))
            done.owned;
        others = λ j h. done.others j (Every-right (λ a. a ≢ j) mine rest h)
            ∙ store-other (flat_map (λ t. writes t arrays words) s) arrays j (stage_elsewhere k s arrays words j p.0 (Every-left (λ a. a ≢ j) mine rest h));
        long = done.long;
      }
