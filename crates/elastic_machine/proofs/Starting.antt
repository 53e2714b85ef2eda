-- The lists of an Elastic at its beginning.
use Rattle.std.proofs.Common.{◌≡◌, ℕ, zero, suc, ◌+◌, ◌*◌, ◌<◌, ◌≤◌, ◌^◌, List, [], ◌∷◌, length, map, replicate, drop, refl, sym, ◌∙◌, ap, subst, arith}
use Rattle.std.proofs.lemmas.List.{length-replicate, length-map}
use Rattle.std.specs.List.{AllByRecursion as Every}
use Rattle.dom_words.specs.State.{started}
use Rattle.dom_words.specs.declared.array.Array.{Array}
use Rattle.banzai_config.specs.Action.{Arrays, Entry}
use Rattle.banzai_config.specs.Legal.{length_of_array}
use Rattle.banzai_config.specs.Parts.{PartsForm}
use Rattle.banzai_machine.specs.Kept.{Touched}
use Rattle.banzai_machine.specs.Runnable.{IsRunnable, array_sizes}
use Rattle.banzai_machine.proofs.Noted.{few_slots}
use Rattle.elastic_machine.specs.declared.mark.Mark.{Mark}
use Rattle.elastic_machine.specs.Kept.{IsKept}
use Rattle.elastic_machine.specs.Lanes.{MarkWithin, packets, queues_in, queues_over}

abbrev pub empty_mark : Mark
empty_mark = record { start = 0; count = 0 }

marks_within : (cap n : ℕ) → 1 ≤ cap → Every (λ m. MarkWithin cap m) (replicate n empty_mark)
marks_within cap zero h = tt
marks_within cap (suc n) h = (record { start = omega (arith, h); count = omega arith }, marks_within cap n h)

queues_empty : (cap n : ℕ) (all : List Entry) → queues_over cap (replicate n empty_mark) all ≡ replicate n []
queues_empty cap zero all = refl
queues_empty cap (suc n) all = ap (λ (z : List (List Entry)). [] ∷ z) (queues_empty cap n (drop cap all))

none_each : {S : Type 0} (ss : List S) → ◌≡◌ {A = List (List Entry)} (replicate (length ss) []) (map (λ s. []) ss)
none_each [] = refl
none_each (s ∷ ss) = ap (λ (z : List (List Entry)). [] ∷ z) (none_each ss)

sizes_start : (xs : List Array) → map length (started xs) ≡ map length_of_array xs
sizes_start [] = refl
sizes_start (a ∷ xs) = rw (length-replicate a.length a.init, sizes_start xs) refl

module _ (c : PartsForm) (cap n : ℕ) (marks : List Mark) (words : List ℕ) (is : marks ≡ replicate n empty_mark) (count : n ≡ length c.stages + 1) where
  pub queues_new : queues_in c.containers cap marks words ≡ [] ∷ map (λ s. []) c.stages
  queues_new =
      let more : n ≡ suc (length c.stages) = omega (arith, count) in
      ap (λ (ms : List Mark). queues_over cap ms (packets c.containers (length marks * cap) words)) is
      ∙ queues_empty cap n (packets c.containers (length marks * cap) words)
      ∙ ap (λ (i : ℕ). replicate i []) more
      ∙ ap (λ (z : List (List Entry)). [] ∷ z) (none_each c.stages)

  pub kept_new : (arrays : Arrays) (touches : Touched) → 1 ≤ cap → IsRunnable c → n * cap < 2 ^ 31 → words ≡ replicate (n * cap * c.containers) 0
      → arrays ≡ started c.arrays → touches.room ≡ length c.arrays → IsKept cap c marks words arrays touches
  kept_new arrays touches some runs few w a room =
      let size : length marks ≡ n = ap length is ∙ length-replicate n empty_mark in
      record {
        queues = size ∙ count;
        held = record {
          within = subst (λ (ms : List Mark). Every (λ m. MarkWithin cap m) ms) (sym is) (marks_within cap n some);
          wide = ap length w ∙ length-replicate (n * cap * c.containers) 0 ∙ ap (λ (i : ℕ). i * cap * c.containers) (sym size);
          few = subst (λ (i : ℕ). i * cap < 2 ^ 31) (sym size) few;
        };
        sizes = ap (λ (z : Arrays). map length z) a ∙ sizes_start c.arrays;
        room = omega (arith, room, few_slots (array_sizes c) c.containers c.stages runs.stages runs.arrays, length-map c.arrays length_of_array);
      }
