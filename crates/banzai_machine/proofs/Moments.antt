-- The laws of pipelines, at the stages of a configuration.
use Rattle.std.proofs.Common.{◌≡◌, ◌+◌, ◌-◌, ◌<◌, ◌≤◌, ◌⊎◌, inl, inr, ℕ, zero, suc, Some, None, List, [], ◌∷◌, ◌++◌, length, map, replicate, reverse, take, drop, slice_get, slice_index_or, get_or, refl, sym, ◌∙◌, ap, subst, arith, drop-cons}
use Rattle.std.proofs.lemmas.Bool.{cases_lt}
use Rattle.std.proofs.lemmas.Option.{slice_get_within}
use Rattle.std.proofs.lemmas.List.{get_or-reverse, get_or_past, length-drop, length-map, length-reverse, map-append, take-append-drop}
use Rattle.std.proofs.lemmas.List.Elements.{filter_map-append}
use Rattle.std.specs.Option.{option_map}
use Rattle.dom_words.specs.State.{Hash, started}
use Rattle.pipeline_law.specs.Stage.{items_alone}
use Rattle.pipeline_law.specs.Pipeline.{Row, drained, left_after, row_after}
use Rattle.pipeline_law.proofs.Theorems.{alone_in_flight, serial, unreached, whole_state}
use Rattle.banzai_config.specs.Action.{Arrays, Entry, acts, alone, entering, front}
use Rattle.banzai_config.specs.Parts.{PartsForm, StageForm}
use Rattle.banzai_machine.specs.Alone.{IsMoment, IsPipeAlone, arrays_behind, entries_alone, newest, packets_of}
use Rattle.banzai_machine.specs.Own.{OwnArrays}
use Rattle.banzai_machine.specs.Pipe.{drain, emitted, entered, own, pipe, pipeline, shown}
use Rattle.banzai_machine.proofs.Apart.{feed_forward, own-agree}
use Rattle.banzai_machine.proofs.Shares.{arrays_shared, views}
use Rattle.banzai_machine.proofs.Through.{front_is, items_are, map-replicate, packets_are, state_is}

module _ (hash : Hash) (p : PartsForm) where
  items_in : (entries : List Entry) → map (entered p) (entries ++ drain p) ≡ drained (pipeline hash p) (map (entered p) entries)
  items_in entries =
      map-append (entered p) entries (drain p) ∙ ap (λ (z : List Entry). map (entered p) entries ++ z) (map-replicate (entered p) (length p.stages) None)

  cycles : OwnArrays p.stages → (entries : List Entry) → emitted hash p (entries ++ drain p) ≡ drain p ++ entries_alone hash p (started p.arrays) entries
  cycles owns entries =
      let law = serial (pipeline hash p) (started p.arrays) (map (entered p) entries) (feed_forward hash p owns) in
      ap (λ (z : List Entry). map (shown p) (left_after (pipeline hash p) (started p.arrays) z)) (items_in entries)
      ∙ ap (λ (z : List Entry). map (shown p) z) law.items
      ∙ map-append (shown p) (drain p) (items_alone (acts hash) p.stages (started p.arrays) (map (entered p) entries))
      ∙ ap (λ (z : List Entry). z ++ map (shown p) (items_alone (acts hash) p.stages (started p.arrays) (map (entered p) entries))) (map-replicate (shown p) (length p.stages) None)
      ∙ ap (λ (z : List Entry). drain p ++ z) (items_are hash p (started p.arrays) entries)

  packets_of-idle : (n : ℕ) → packets_of (replicate n None) ≡ []
  packets_of-idle zero = refl
  packets_of-idle (suc n) = packets_of-idle n

  pub pipe_alone : OwnArrays p.stages → (entries : List Entry) → IsPipeAlone hash p entries
  pipe_alone owns entries = record {
    cycles = cycles owns entries;
    packets =
        ap (λ (z : List Entry). packets_of z) (cycles owns entries)
        ∙ filter_map-append (λ (entry : Entry). entry) (drain p) (entries_alone hash p (started p.arrays) entries)
        ∙ ap (λ (z : List (List ℕ)). z ++ packets_of (entries_alone hash p (started p.arrays) entries)) (packets_of-idle (length p.stages))
        ∙ packets_are hash p (started p.arrays) entries;
    arrays =
        ap (λ (z : List Entry). (row_after (pipeline hash p) (started p.arrays) z).state) (items_in entries)
        ∙ whole_state (pipeline hash p) (started p.arrays) views (map (entered p) entries) (feed_forward hash p owns) (arrays_shared hash p)
        ∙ state_is hash p (started p.arrays) entries;
  }

  -- register k holds what the first k stages make of an entry, and the stage behind it has these words in its arrays
  abbrev pub Holds : Row Arrays Entry → ℕ → Arrays → Entry → Type 0
  Holds row k arrays entry =
      (slice_index_or row.registers k None ≡ option_map (λ packet. (front hash p k arrays (entering p packet)).words) entry)
      × ((stage : StageForm) → slice_get p.stages k ≡ Some stage → own stage row.state ≡ own stage arrays)

  reached : OwnArrays p.stages → (before after : List Entry) (entry : Entry) (entries : List Entry) (k : ℕ)
      → entries ≡ before ++ entry ∷ after → length after ≡ k → k < length p.stages → Holds (pipe hash p entries) k (alone hash p (packets_of before)).arrays entry
  reached owns before after entry entries k split size few =
      let items : map (entered p) entries ≡ map (entered p) before ++ entered p entry ∷ map (entered p) after =
      ap (λ (z : List Entry). map (entered p) z) split ∙ map-append (entered p) before (entry ∷ after) in
      let long : length (map (entered p) after) ≡ k = length-map after (entered p) ∙ size in
      let few' : length (map (entered p) after) < length p.stages = omega arith in
      let law = alone_in_flight (pipeline hash p) (started p.arrays) (map (entered p) before) (entered p entry) (map (entered p) after) (feed_forward hash p owns) few' in
      let past = state_is hash p (started p.arrays) before in
      let register = rw (← items, long, past) at law.register None in
      let part = rw (← items, long, past) at law.part in
      (register ∙ front_is hash p k (alone hash p (packets_of before)).arrays entry, part)

  not_reached : OwnArrays p.stages → (entries : List Entry) (k : ℕ) → k < length p.stages → length entries ≤ k
      → Holds (pipe hash p entries) k (arrays_behind hash p k entries) (newest k entries)
  not_reached owns entries k few late =
      let late' : length (map (entered p) entries) ≤ k = omega (arith, length-map entries (entered p)) in
      let law = unreached (pipeline hash p) (started p.arrays) (map (entered p) entries) k (feed_forward hash p owns) late' few in
      let none : newest k entries ≡ None = get_or_past (reverse entries) k None (omega (arith, length-reverse entries)) in
      let nothing : length entries - (k + 1) ≡ 0 = omega arith in
      let start : Holds (pipe hash p entries) k (started p.arrays) None = (law.register None, law.part) in
      let here : Holds (pipe hash p entries) k (arrays_behind hash p k entries) None =
      subst (λ (n : ℕ). Holds (pipe hash p entries) k (alone hash p (packets_of (take n entries))).arrays None) (sym nothing) start in
      subst (λ (e : Entry). Holds (pipe hash p entries) k (arrays_behind hash p k entries) e) (sym none) here

  holds_at : OwnArrays p.stages → (entries : List Entry) (k : ℕ) → k < length p.stages → Holds (pipe hash p entries) k (arrays_behind hash p k entries) (newest k entries)
  holds_at owns entries k few = by_length (cases_lt k (length entries))
    where
      by_length : (k < length entries) ⊎ (length entries ≤ k) → Holds (pipe hash p entries) k (arrays_behind hash p k entries) (newest k entries)
      by_length (inl early) =
          let m : ℕ = length entries - (k + 1) in
          let inside : m < length entries = omega arith in
          let split : entries ≡ take m entries ++ get_or entries m None ∷ drop (suc m) entries =
          sym (take-append-drop m entries) ∙ ap (λ (z : List Entry). take m entries ++ z) (drop-cons entries m None inside) in
          let size : length (drop (suc m) entries) ≡ k = length-drop (suc m) entries ∙ omega arith in
          let turned : length entries - 1 - k ≡ m = omega arith in
          let last : newest k entries ≡ get_or entries m None =
          get_or-reverse entries k None early ∙ ap (λ (n : ℕ). get_or entries n None) turned in
          subst (λ (e : Entry). Holds (pipe hash p entries) k (arrays_behind hash p k entries) e) (sym last)
          (reached owns (take m entries) (drop (suc m) entries) (get_or entries m None) entries k split size few)
      by_length (inr late) = not_reached owns entries k few late

  pub moment : OwnArrays p.stages → (entries : List Entry) → IsMoment hash p entries (pipe hash p entries)
  moment owns entries = record {
    registers = λ k few. (holds_at owns entries k few).0;
    arrays = λ k stage at.
        own-agree hash stage (pipe hash p entries).state (arrays_behind hash p k entries) ((holds_at owns entries k (slice_get_within p.stages k stage at)).1 stage at);
  }
