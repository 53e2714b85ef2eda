-- Taps over a run: their rules over the packets that stood before their stages.
use Rattle.std.specs.Prelude.{◌≡◌, ℕ, ◌-◌, ◌^◌, min, Some, None, List, [], ◌∷◌, ◌++◌, length, map}
use Rattle.std.specs.List.{fold}
use Rattle.dom_words.specs.State.{Hash}
use Rattle.banzai_config.specs.Action.{Entry}
use Rattle.banzai_config.specs.Parts.{PartsForm}
use Rattle.banzai_machine.specs.Pipe.{pipe}
use Rattle.banzai_machine.specs.State.{Stands}
use Rattle.probe_taps.specs.Attached.{AttachedForm, TappedForm, after_cycle, before}
use Rattle.probe_taps.specs.Taps.{TapForm}

-- a packet that stood before a stage, and the cycle in which it did
pub record Standing : Type 0 where
  pub cycle : ℕ
  pub words : List ℕ

abbrev pub standing : ℕ → Entry → List Standing
standing cycle None = []
standing cycle (Some words) = record { cycle = cycle; words = words } ∷ []

-- the cycle that comes after these entries: cycles count from 0 up to the greatest number of 64 bits
abbrev pub count_of : List Entry → ℕ
count_of entries = min (length entries) (2 ^ 64 - 1)

-- a tap's rule over packets, one after another
abbrev pub folded : TapForm → List Standing → ℕ
folded tap packets = fold (λ number s. tap.rule number s.cycle s.words) tap.number packets

-- a configuration is clocked over earlier entries and then over later ones
module _ (hash : Hash) (p : PartsForm) where
  -- the packets that stand before a stage in the cycles of the later ones: in each, what the entries before it have led to
  abbrev pub stood : ℕ → List Entry → List Entry → List Standing
  stood stage earlier [] = []
  stood stage earlier (entry ∷ later) =
      standing (count_of earlier) (before stage (pipe hash p earlier).registers) ++ stood stage (earlier ++ entry ∷ []) later

  -- a tap then, if it was attached when the earlier ones had come
  abbrev pub after_run : List Entry → List Entry → AttachedForm → AttachedForm
  after_run earlier later a = record {
    stage = a.stage;
    tap = record { number = folded a.tap (stood a.stage earlier later); rule = a.tap.rule };
  }

  -- the taps then, one cycle after another
  abbrev pub cycle_by_cycle : List Entry → List Entry → List AttachedForm → List AttachedForm
  cycle_by_cycle earlier [] taps = taps
  cycle_by_cycle earlier (entry ∷ later) taps =
      cycle_by_cycle (earlier ++ entry ∷ []) later (map (after_cycle (count_of earlier) (pipe hash p earlier).registers) taps)

-- a machine with taps is where these entries lead from its beginning, and its taps are those at the start of the later ones,
-- once these have come
pub record IsTapped (hash : Hash) (earlier later : List Entry) (start : List AttachedForm) (t : TappedForm) : Type 0 where
  pub machine : Stands hash (earlier ++ later) t.machine
  pub cycle : t.cycle ≡ count_of (earlier ++ later)
  pub taps : t.taps ≡ map (after_run hash t.machine.config earlier later) start
