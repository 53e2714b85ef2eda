-- From the lists that a machine keeps to what it holds.
use Rattle.std.proofs.Common.{◌≡◌, ℕ, suc, ◌-◌, ◌*◌, ◌<◌, ◌≤◌, Bool, false, subst, drop, Some, None, List, [], ◌∷◌, ◌++◌, length, map, take, get_or, set, refl, sym, ◌∙◌, ap, arith}
use Rattle.std.proofs.lemmas.List.{get_or_default, length-map, map-append}
use Rattle.dom_words.specs.State.{Hash, started}
use Rattle.pipeline_law.specs.Pipeline.{Row, cycled, empty_row, left, leaving, piped}
use Rattle.pipeline_law.specs.Stage.{results}
use Rattle.atom_traits.specs.Form.{port_word}
use Rattle.banzai_config.specs.Action.{Arrays, Entry, acts}
use Rattle.banzai_config.specs.Parts.{PartsForm}
use Rattle.banzai_machine.specs.Kept.{FitsMost, put_in}
use Rattle.banzai_machine.specs.Pipe.{clocked, cycle_with, emitted, entered, leaves_with, pipe, shown}
use Rattle.banzai_machine.specs.Ring.{IsPlace, places, ring, rotated, shown_register}
use Rattle.banzai_machine.specs.State.{HasWords, LeavesAs}
use Rattle.banzai_machine.proofs.Rounds.{length-places, length-results, place_at, rotated_get, rotated_turn}

piped-append : {A X S : Type 0} (run : S → A → X → A × X) (clock : List S → List X → A → A) (ss : List S) (p : Row A X) (xs ys : List X)
    → piped run clock ss p (xs ++ ys) ≡ piped run clock ss (piped run clock ss p xs) ys
piped-append run clock ss p [] ys = refl
piped-append run clock ss p (x ∷ xs) ys = piped-append run clock ss (cycled run clock ss p x) xs ys

left-append : {A X S : Type 0} (run : S → A → X → A × X) (clock : List S → List X → A → A) (ss : List S) (p : Row A X) (xs : List X) (y : X)
    → left run clock ss p (xs ++ y ∷ []) ≡ left run clock ss p xs ++ leaving run clock ss (piped run clock ss p xs) y ∷ []
left-append run clock ss p [] y = refl
left-append run clock ss p (x ∷ xs) y = ap (λ z. leaving run clock ss p x ∷ z) (left-append run clock ss (cycled run clock ss p x) xs y)

module _ (hash : Hash) (c : PartsForm) where
  -- what leaves with one entry more
  pub emitted_more : (entries : List Entry) (entry : Entry) → emitted hash c (entries ++ entry ∷ []) ≡ emitted hash c entries ++ leaves_with hash c (pipe hash c entries) entry ∷ []
  emitted_more entries entry =
      let start : Row Arrays Entry = empty_row c.stages (started c.arrays) None in
      ap (λ (xs : List Entry). map (shown c) (left (acts hash) clocked c.stages start xs)) (map-append (entered c) entries (entry ∷ []))
      ∙ ap (λ (xs : List Entry). map (shown c) xs) (left-append (acts hash) clocked c.stages start (map (entered c) entries) (entered c entry))
      ∙ map-append (shown c) (left (acts hash) clocked c.stages start (map (entered c) entries)) (leaving (acts hash) clocked c.stages (pipe hash c entries) (entered c entry) ∷ [])

  put_in-entered : (entry : Entry) → put_in c.containers entry ≡ entered c entry
  put_in-entered None = refl
  put_in-entered (Some fields) = refl

  -- the registers of a new row, from the place that was exchanged
  pub row_is : (rs new : List Entry) (arrays arrays' : Arrays) (entry : Entry) → arrays' ≡ clocked c.stages rs arrays
      → new ≡ take (length c.stages) (put_in c.containers entry ∷ results (acts hash) c.stages rs arrays)
      → ◌≡◌ {A = Row Arrays Entry} (record { registers = new; state = arrays' }) (cycle_with hash c (record { registers = rs; state = arrays }) entry)
  row_is rs new arrays arrays' entry state registers =
      ap (λ (z : List Entry). record { registers = z; state = arrays' }) registers
      ∙ ap (λ (s : Arrays). record { registers = take (length c.stages) (put_in c.containers entry ∷ results (acts hash) c.stages rs arrays); state = s }) state
      ∙ ap (λ (e : Entry). record { registers = take (length c.stages) (e ∷ results (acts hash) c.stages rs arrays); state = clocked c.stages rs arrays }) (put_in-entered entry)

  -- what leaves is behind the last stage
  pub leaving_is : (rs : List Entry) (arrays : Arrays) (entry : Entry) (n : ℕ) → length c.stages ≡ suc n → length rs ≡ length c.stages
      → leaves_with hash c (record { registers = rs; state = arrays }) entry ≡ shown c (get_or (results (acts hash) c.stages rs arrays) n None)
  leaving_is rs arrays entry n is same =
      let low : n < length (results (acts hash) c.stages rs arrays) = omega (arith, is, length-results (acts hash) c.stages rs arrays same) in
      ap (λ (k : ℕ). shown c (get_or (entered c entry ∷ results (acts hash) c.stages rs arrays) k (entered c entry))) is
      ∙ ap (λ (e : Entry). shown c e) (get_or_default (results (acts hash) c.stages rs arrays) n (entered c entry) None low)

  pub stands_step : (row row' : Row Arrays Entry) (entries : List Entry) (entry : Entry) → row' ≡ cycle_with hash c row entry → row ≡ pipe hash c entries
      → row' ≡ pipe hash c (entries ++ entry ∷ [])
  stands_step row row' entries entry step is =
      step ∙ ap (λ (r : Row Arrays Entry). cycle_with hash c r entry) is
      ∙ sym (ap (λ (xs : List Entry). piped (acts hash) clocked c.stages (empty_row c.stages (started c.arrays) None) xs) (map-append (entered c) entries (entry ∷ []))
      ∙ piped-append (acts hash) clocked c.stages (empty_row c.stages (started c.arrays) None) (map (entered c) entries) (entered c entry ∷ []))

-- a register by its place
pub register_is : (w p k n at : ℕ) (bs : List Bool) (ws : List ℕ) (b : Bool) → n ≡ length bs → p < n → k < n → IsPlace p k n at → b ≡ get_or bs at b
    → get_or (ring w p bs ws) k None ≡ shown_register b (take w (drop (at * w) ws))
register_is w p k n at bs ws b size hp hk is flag =
    let all : n ≡ length (places w bs ws) = size ∙ sym (length-places w bs ws) in
    let p' : p < length (places w bs ws) = omega arith in
    let k' : k < length (places w bs ws) = omega arith in
    let at' : at < length bs = omega (arith, is.within) in
    let flag' : b ≡ get_or bs at false = flag ∙ get_or_default bs at b false at' in
    rotated_get (places w bs ws) p k at None p' k' (subst (λ (m : ℕ). IsPlace p k m at) all is)
    ∙ sym (place_at w bs ws at None at')
    ∙ ap (λ (x : Bool). shown_register x (take w (drop (at * w) ws))) (sym flag')

module _ (hash : Hash) (c : PartsForm)
    (rs mid : List Entry) (arrays : Arrays) (entry : Entry) (p at : ℕ) (some : 0 < length c.stages) (same : length rs ≡ length c.stages) (long : length mid ≡ length c.stages) (hp : p < length c.stages)
    (is : IsPlace p (length c.stages - 1) (length c.stages) at) (acted : rotated p mid ≡ results (acts hash) c.stages rs arrays) where
  -- rs: the registers before a cycle; mid: the places once all stages have acted; at: the place of the oldest
  pub turn_left : leaves_with hash c (record { registers = rs; state = arrays }) entry ≡ shown c (get_or mid at None)
  turn_left =
      let n : ℕ = length c.stages - 1 in
      let size : length c.stages ≡ suc n = omega arith in
      let p' : p < length mid = omega arith in
      let n' : n < length mid = omega arith in
      leaving_is hash c rs arrays entry n size same
      ∙ ap (λ (z : List Entry). shown c (get_or z n None)) (sym acted)
      ∙ ap (λ (e : Entry). shown c e) (rotated_get mid p n at None p' n' (subst (λ (m : ℕ). IsPlace p n m at) (sym long) is))

  pub turn_row : (new : List Entry) (arrays' : Arrays) → new ≡ set mid at (put_in c.containers entry) → arrays' ≡ clocked c.stages rs arrays
      → ◌≡◌ {A = Row Arrays Entry} (record { registers = rotated at new; state = arrays' }) (cycle_with hash c (record { registers = rs; state = arrays }) entry)
  turn_row new arrays' changed state =
      row_is hash c rs (rotated at new) arrays arrays' entry state
      (ap (λ (z : List Entry). rotated at z) changed
      ∙ rotated_turn mid (length c.stages) p at (put_in c.containers entry) (sym long) hp is
      ∙ ap (λ (z : List Entry). take (length c.stages) (put_in c.containers entry ∷ z)) acted)

-- the packet that is passed keeps its number of words
pub leaves_size : (c : PartsForm) (e : Entry) (told : Bool) (old new : List ℕ) → LeavesAs (shown c e) told old new → length old ≡ length c.outputs → length new ≡ length old
leaves_size c None told old new p size = ap length p.1
leaves_size c (Some words) told old new p size = ap length p.1 ∙ length-map c.outputs (λ port. port_word port words) ∙ sym size

-- a word for each field is no more than there are containers
pub fits_most : (n containers : ℕ) (entry : Entry) → HasWords n entry → n ≤ containers → FitsMost containers entry
fits_most n containers None is few = tt
fits_most n containers (Some words) is few = omega (arith, is)
