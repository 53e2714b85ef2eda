-- The lists of a machine at its beginning.
use Rattle.std.proofs.Common.{◌≡◌, ℕ, ◌*◌, ◌<◌, Bool, false, None, List, [], ◌∷◌, ◌++◌, length, map, replicate, refl, ◌∙◌, ap, arith, append-nil}
use Rattle.std.proofs.lemmas.List.{length-replicate, length-map}
use Rattle.std.proofs.lemmas.List.Elements.{All-nil}
use Rattle.dom_words.specs.State.{started}
use Rattle.dom_words.specs.declared.array.Array.{Array}
use Rattle.pipeline_law.specs.Pipeline.{Row, empty_row}
use Rattle.banzai_config.specs.Action.{Arrays, Entry}
use Rattle.banzai_config.specs.Legal.{length_of_array}
use Rattle.banzai_config.specs.Parts.{PartsForm}
use Rattle.banzai_machine.specs.declared.touch.Touch.{Touch}
use Rattle.banzai_machine.specs.Kept.{IsKept, Touched, ring_row}
use Rattle.banzai_machine.specs.Runnable.{IsRunnable, array_sizes}
use Rattle.banzai_machine.proofs.Noted.{few_slots}
use Rattle.banzai_machine.proofs.Rounds.{places_none}

sizes_start : (xs : List Array) → map length (started xs) ≡ map length_of_array xs
sizes_start [] = refl
sizes_start (a ∷ xs) = rw (length-replicate a.length a.init, sizes_start xs) refl

module _ (c : PartsForm) (depth : ℕ) (filled : List Bool) (words : List ℕ) (arrays : Arrays) (is : depth ≡ length c.stages)
    (f : filled ≡ replicate depth false) (a : arrays ≡ started c.arrays) where
  pub kept_new : (touches : Touched) → IsRunnable c → words ≡ replicate (depth * c.containers) 0 → touches.list ≡ [] → touches.room ≡ length c.arrays → IsKept c 0 filled words arrays touches
  kept_new touches runs w none room = record {
    position = runs.some;
    flags = ap length f ∙ length-replicate depth false ∙ is;
    wide = ap length w ∙ length-replicate (depth * c.containers) 0 ∙ ap (λ (n : ℕ). n * c.containers) is;
    sizes = ap (λ (z : Arrays). map length z) a ∙ sizes_start c.arrays;
    room = omega (arith, room, few_slots (array_sizes c) c.containers c.stages runs.stages runs.arrays, length-map c.arrays length_of_array);
    once = rw none tt;
    named = rw none (All-nil (λ (touch : Touch). touch.array < length c.arrays));
  }

  pub row_new : ◌≡◌ {A = Row Arrays Entry} (ring_row c 0 filled words arrays) (empty_row c.stages (started c.arrays) None)
  row_new =
      ap (λ (bs : List Bool). ring_row c 0 bs words arrays) f
      ∙ ap (λ (rs : List Entry). record { registers = rs ++ []; state = arrays }) (places_none c.containers depth words)
      ∙ ap (λ (rs : List Entry). record { registers = rs; state = arrays }) (append-nil (replicate depth None))
      ∙ ap (λ (n : ℕ). record { registers = replicate n None; state = arrays }) is
      ∙ ap (λ (s : Arrays). record { registers = replicate (length c.stages) None; state = s }) a
