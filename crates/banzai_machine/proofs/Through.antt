-- One packet through the stages, as the pipeline's definitions and the configuration's say it.
use Rattle.std.proofs.Common.{◌≡◌, ℕ, zero, suc, Some, None, List, [], ◌∷◌, map, replicate, take, refl, ◌∙◌, ap}
use Rattle.std.specs.Option.{option_map}
use Rattle.dom_words.specs.State.{Hash}
use Rattle.pipeline_law.specs.Stage.{items_alone, state_alone, through}
use Rattle.banzai_config.specs.Action.{Arrays, Entry, acts, alone_from, entering, front, outcome_of, put, stage_exports, stage_writes, store, through_stages}
use Rattle.banzai_config.specs.Parts.{PartsForm, StageForm}
use Rattle.banzai_machine.specs.Alone.{entries_alone, packets_of}
use Rattle.banzai_machine.specs.Pipe.{entered, shown}

pub map-replicate : {X Y : Type 0} (f : X → Y) (n : ℕ) (x : X) → map f (replicate n x) ≡ replicate n (f x)
map-replicate f zero x = refl
map-replicate f (suc n) x = ap (λ z. f x ∷ z) (map-replicate f n x)

module _ (hash : Hash) where
  through_some : (ss : List StageForm) (arrays : Arrays) (words : List ℕ)
      → through (acts hash) ss arrays (Some words) ≡ ((through_stages hash ss arrays words).arrays, Some (through_stages hash ss arrays words).words)
  through_some [] arrays words = refl
  through_some (s ∷ ss) arrays words = through_some ss (store (stage_writes s arrays words) arrays) (put (stage_exports hash s arrays words) words)

  through_none : (ss : List StageForm) (arrays : Arrays) → through (acts hash) ss arrays None ≡ (arrays, None)
  through_none [] arrays = refl
  through_none (s ∷ ss) arrays = through_none ss arrays

  module _ (p : PartsForm) where
    -- the arrays after entries, one after another
    pub state_is : (arrays : Arrays) (entries : List Entry)
        → state_alone (acts hash) p.stages arrays (map (entered p) entries) ≡ (alone_from hash p arrays (packets_of entries)).arrays
    state_is arrays [] = refl
    state_is arrays (None ∷ entries) =
        ap (λ (r : Arrays × Entry). state_alone (acts hash) p.stages r.0 (map (entered p) entries)) (through_none p.stages arrays) ∙ state_is arrays entries
    state_is arrays (Some packet ∷ entries) =
        ap (λ (r : Arrays × Entry). state_alone (acts hash) p.stages r.0 (map (entered p) entries)) (through_some p.stages arrays (entering p packet))
        ∙ state_is (outcome_of hash p arrays packet).arrays entries

    -- what they come out as
    pub items_are : (arrays : Arrays) (entries : List Entry)
        → map (shown p) (items_alone (acts hash) p.stages arrays (map (entered p) entries)) ≡ entries_alone hash p arrays entries
    items_are arrays [] = refl
    items_are arrays (None ∷ entries) =
        ap (λ (r : Arrays × Entry). shown p r.1 ∷ map (shown p) (items_alone (acts hash) p.stages r.0 (map (entered p) entries))) (through_none p.stages arrays)
        ∙ ap (λ (z : List Entry). None ∷ z) (items_are arrays entries)
    items_are arrays (Some packet ∷ entries) =
        ap (λ (r : Arrays × Entry). shown p r.1 ∷ map (shown p) (items_alone (acts hash) p.stages r.0 (map (entered p) entries))) (through_some p.stages arrays (entering p packet))
        ∙ ap (λ (z : List Entry). Some (outcome_of hash p arrays packet).packet ∷ z) (items_are (outcome_of hash p arrays packet).arrays entries)

    pub packets_are : (arrays : Arrays) (entries : List Entry) → packets_of (entries_alone hash p arrays entries) ≡ (alone_from hash p arrays (packets_of entries)).packets
    packets_are arrays [] = refl
    packets_are arrays (None ∷ entries) = packets_are arrays entries
    packets_are arrays (Some packet ∷ entries) =
        ap (λ (z : List (List ℕ)). (outcome_of hash p arrays packet).packet ∷ z) (packets_are (outcome_of hash p arrays packet).arrays entries)

    -- one entry through the first k stages
    pub front_is : (k : ℕ) (arrays : Arrays) (entry : Entry)
        → (through (acts hash) (take k p.stages) arrays (entered p entry)).1 ≡ option_map (λ packet. (front hash p k arrays (entering p packet)).words) entry
    front_is k arrays None = ap (λ (r : Arrays × Entry). r.1) (through_none (take k p.stages) arrays)
    front_is k arrays (Some packet) = ap (λ (r : Arrays × Entry). r.1) (through_some (take k p.stages) arrays (entering p packet))
