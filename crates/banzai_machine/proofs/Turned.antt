-- One stage more has acted on its place.
use Rattle.std.proofs.Common.{◌≡◌, ℕ, suc, ◌+◌, ◌*◌, ◌<◌, ◌≤◌, Bool, false, Some, None, List, ◌++◌, length, take, drop, set, get_or, slice_get, sym, ◌∙◌, ap, arith}
use Rattle.std.proofs.lemmas.List.{set-get_or}
use Rattle.dom_words.specs.State.{Hash}
use Rattle.banzai_config.specs.Action.{Arrays, Entry, acts}
use Rattle.banzai_config.specs.Parts.{StageForm}
use Rattle.banzai_machine.specs.declared.touch.Touch.{Touch}
use Rattle.banzai_machine.specs.Own.{OwnArrays}
use Rattle.banzai_machine.specs.Ring.{IsPlace, places, ring, rotated, shown_register}
use Rattle.banzai_machine.specs.Touches.{touches_before}
use Rattle.banzai_machine.proofs.Noted.{step_touches}
use Rattle.banzai_machine.proofs.Rounds.{length-places, length-rotated, place_at, places_changed, turn_register, turn_step}
use Rattle.banzai_machine.proofs.Skipped.{SoFar}
use Rattle.banzai_machine.proofs.Sweep.{step_out, step_state}

-- a ring has as many registers as flags
pub length-ring : (w p : ℕ) (flags : List Bool) (words : List ℕ) (n : ℕ) → length flags ≡ n → p < n → length (ring w p flags words) ≡ n
length-ring w p flags words n e h =
    let le : p ≤ length (places w flags words) = omega (arith, length-places w flags words, e) in
    length-rotated p (places w flags words) le ∙ length-places w flags words ∙ e

-- first, old: the words and the arrays before the cycle; words, arrays, touches: when k stages have acted; with ' when stage k has too
module _ (hash : Hash) (ss : List StageForm) (w p : ℕ) (flags : List Bool) (first words words' : List ℕ) (old arrays arrays' : Arrays) (touches touches' : List Touch)
    (k at : ℕ) (s : StageForm) (own : OwnArrays ss) (hp : p < length ss) (hk : k < length ss) (flagged : length flags ≡ length ss) (is : IsPlace p k (length ss) at) (found : slice_get ss k ≡ Some s)
    (prev : SoFar hash ss (ring w p flags first) old (ring w p flags words) arrays touches k) where
  pub stage_step : take (at * w) words' ≡ take (at * w) words → drop (at * w + w) words' ≡ drop (at * w + w) words
      → shown_register (get_or flags at false) (take w (drop (at * w) words')) ≡ (acts hash s arrays (shown_register (get_or flags at false) (take w (drop (at * w) words)))).1
      → arrays' ≡ (acts hash s arrays (shown_register (get_or flags at false) (take w (drop (at * w) words)))).0
      → touches' ≡ touches ++ touches_before (k + 1) s arrays (shown_register (get_or flags at false) (take w (drop (at * w) words)))
      → SoFar hash ss (ring w p flags first) old (ring w p flags words') arrays' touches' (suc k)
  stage_step before after out state noted =
      let registers : List Entry = ring w p flags first in
      let now : List Entry = places w flags words in
      let full : Bool = get_or flags at false in
      let in_flags : at < length flags = omega (arith, is.within, flagged) in
      let same : length registers ≡ length ss = length-ring w p flags first (length ss) flagged hp in
      let long : length now ≡ length ss = length-places w flags words ∙ flagged in
      let entry : Entry = shown_register full (take w (drop (at * w) words)) in
      let is_now : entry ≡ get_or now at None = place_at w flags words at None in_flags in
      let register : slice_get registers k ≡ Some entry = turn_register (acts hash) ss registers now old p k at hp hk same long is prev.passed None entry is_now in
      let made : Entry = shown_register full (take w (drop (at * w) words')) in
      let out' : made ≡ (acts hash s old entry).1 = out ∙ step_out hash ss registers old arrays k s entry own found prev.stored in
      let changed : places w flags words' ≡ set now at made =
      ap (λ (bs : List Bool). places w bs words') (sym (set-get_or flags at false)) ∙ places_changed w flags words words' at full in_flags before after in
      record {
        stored = state ∙ step_state hash ss registers old arrays k s entry own found register prev.stored;
        passed =
            ap (λ (z : List Entry). rotated p z) changed
            ∙ turn_step (acts hash) ss registers now old p k at hp hk same long is prev.passed s entry made found register out';
        touched = step_touches hash ss registers old arrays k s entry touches touches' own found register prev.stored prev.touched noted;
      }
