-- A tap's number over a run, one cycle after another.
use Rattle.std.proofs.Common.{◌≡◌, ℕ, length-append, arith, Some, None, List, [], ◌∷◌, ◌++◌, map, refl, ap, sym, ◌∙◌, append-nil, append_assoc}
use Rattle.std.proofs.lemmas.List.{map-id}
use Rattle.dom_words.specs.State.{Hash}
use Rattle.pipeline_law.specs.Pipeline.{Row}
use Rattle.banzai_config.specs.Action.{Arrays, Entry}
use Rattle.banzai_config.specs.Parts.{PartsForm}
use Rattle.banzai_machine.specs.Pipe.{pipe}
use Rattle.banzai_machine.specs.State.{Stands}
use Rattle.probe_taps.specs.Attached.{AttachedForm, TappedForm, after_cycle, before, has_looked}
use Rattle.probe_taps.specs.Runs.{IsTapped, Standing, after_run, count_of, cycle_by_cycle, folded, standing, stood}
use Rattle.probe_taps.specs.Taps.{TapForm, one_more}

-- where a register was looked at, the rule goes on from there
pub folded_first : (cycle : ℕ) (register : Entry) (tap : TapForm) (packets : List Standing)
    → folded (has_looked cycle register tap) packets ≡ folded tap (standing cycle register ++ packets)
folded_first cycle None tap packets = refl
folded_first cycle (Some words) tap packets = refl

pub rule_stays : (cycle : ℕ) (register : Entry) (tap : TapForm) → (has_looked cycle register tap).rule ≡ tap.rule
rule_stays cycle None tap = refl
rule_stays cycle (Some words) tap = refl

-- taps with the same stage, number and rule
pub attached_is : {s t m n : ℕ} {q r : ℕ → ℕ → List ℕ → ℕ} → s ≡ t → m ≡ n → q ≡ r
    → ◌≡◌ {A = AttachedForm} (record { stage = s; tap = record { number = m; rule = q } }) (record { stage = t; tap = record { number = n; rule = r } })
attached_is a b c = rw (a, b, c) refl

pub map_map : {X Y Z : Type 0} (f : Y → Z) (g : X → Y) (h : X → Z) → ((x : X) → f (g x) ≡ h x) → (xs : List X) → map f (map g xs) ≡ map h xs
map_map f g h is [] = refl
map_map f g h is (x ∷ xs) = rw (is x, map_map f g h is xs) refl

module _ (hash : Hash) (p : PartsForm) where
  -- the first of some cycles
  pub first_cycle : (earlier : List Entry) (entry : Entry) (later : List Entry) (a : AttachedForm)
      → after_run hash p (earlier ++ entry ∷ []) later (after_cycle (count_of earlier) (pipe hash p earlier).registers a) ≡ after_run hash p earlier (entry ∷ later) a
  first_cycle earlier entry later a =
      let register : Entry = before a.stage (pipe hash p earlier).registers in
      attached_is refl
      (folded_first (count_of earlier) register a.tap (stood hash p a.stage (earlier ++ entry ∷ []) later))
      (rule_stays (count_of earlier) register a.tap)

  pub numbers_fold : (earlier later : List Entry) (taps : List AttachedForm) → cycle_by_cycle hash p earlier later taps ≡ map (after_run hash p earlier later) taps
  numbers_fold earlier [] taps = sym (map-id taps)
  numbers_fold earlier (entry ∷ later) taps =
      numbers_fold (earlier ++ entry ∷ []) later (map (after_cycle (count_of earlier) (pipe hash p earlier).registers) taps)
      ∙ map_map (after_run hash p (earlier ++ entry ∷ []) later) (after_cycle (count_of earlier) (pipe hash p earlier).registers)
      (after_run hash p earlier (entry ∷ later)) (first_cycle earlier entry later) taps

  -- one cycle more
  pub cycles_more : (earlier later : List Entry) (entry : Entry) (taps : List AttachedForm)
      → cycle_by_cycle hash p earlier (later ++ entry ∷ []) taps
      ≡ map (after_cycle (count_of (earlier ++ later)) (pipe hash p (earlier ++ later)).registers) (cycle_by_cycle hash p earlier later taps)
  cycles_more earlier [] entry taps = rw (append-nil earlier) refl
  cycles_more earlier (e ∷ later) entry taps =
      let first : List AttachedForm = map (after_cycle (count_of earlier) (pipe hash p earlier).registers) taps in
      cycles_more (earlier ++ e ∷ []) later entry first
      ∙ ap (λ (entries : List Entry). map (after_cycle (count_of entries) (pipe hash p entries).registers) (cycle_by_cycle hash p (earlier ++ e ∷ []) later first))
      (append_assoc earlier (e ∷ []) later)

pub count_more : (entries : List Entry) (entry : Entry) → one_more (count_of entries) ≡ count_of (entries ++ entry ∷ [])
count_more entries entry = grind (arith, length-append entries (entry ∷ []))

-- a machine with taps at the beginning of their run
pub begins : (hash : Hash) (earlier : List Entry) (t : TappedForm) → Stands hash earlier t.machine → t.cycle ≡ count_of earlier → IsTapped hash earlier [] t.taps t
begins hash earlier t is at = record {
  machine = rw (append-nil earlier) is;
  cycle = rw (append-nil earlier) at;
  taps = sym (map-id t.taps);
}

-- and after one cycle more
pub goes_on : (hash : Hash) (earlier later : List Entry) (entry : Entry) (taps : List AttachedForm) (s t : TappedForm) → IsTapped hash earlier later taps s
    → t.machine.config ≡ s.machine.config
    → ((entries : List Entry) → Stands hash entries s.machine → Stands hash (entries ++ entry ∷ []) t.machine)
    → t.cycle ≡ one_more s.cycle → t.taps ≡ map (after_cycle s.cycle s.machine.row.registers) s.taps
    → IsTapped hash earlier (later ++ entry ∷ []) taps t
goes_on hash earlier later entry taps s t was config stands cycle step =
    let c : PartsForm = s.machine.config in
    let all : List Entry = earlier ++ later in
    let there : (all ++ entry ∷ []) ≡ (earlier ++ (later ++ entry ∷ [])) = append_assoc earlier later (entry ∷ []) in
    let row : s.machine.row ≡ pipe hash c all = was.machine in
    let cycles : t.taps ≡ cycle_by_cycle hash c earlier (later ++ entry ∷ []) taps =
    step
    ∙ ap (λ (n : ℕ). map (after_cycle n s.machine.row.registers) s.taps) was.cycle
    ∙ ap (λ (r : Row Arrays Entry). map (after_cycle (count_of all) r.registers) s.taps) row
    ∙ ap (λ (now : List AttachedForm). map (after_cycle (count_of all) (pipe hash c all).registers) now) (was.taps ∙ sym (numbers_fold hash c earlier later taps))
    ∙ sym (cycles_more hash c earlier later entry taps) in
    record {
      machine = rw (← there) (stands all was.machine);
      cycle = cycle ∙ ap one_more was.cycle ∙ count_more all entry ∙ ap count_of there;
      taps = rw config (cycles ∙ numbers_fold hash c earlier (later ++ entry ∷ []) taps);
    }
