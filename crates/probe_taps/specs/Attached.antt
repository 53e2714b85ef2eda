-- Taps that are attached, each before a stage, and what a cycle makes of them.
use Rattle.std.specs.Prelude.{ℕ, ◌-◌, Some, None, List, map, slice_index_or}
use Rattle.banzai_config.specs.Action.{Entry}
use Rattle.banzai_machine.specs.State.{MachineForm}
use Rattle.probe_taps.specs.declared.attached.Attached.{Attached}
use Rattle.probe_taps.specs.Taps.{TapForm, has_seen}

pub record AttachedForm : Type 0 where
  -- stages count from 1
  pub stage : ℕ
  pub tap : TapForm

-- a machine with taps, in order of position; the cycle that comes next
pub record TappedForm : Type 0 where
  pub machine : MachineForm
  pub cycle : ℕ
  pub taps : List AttachedForm

-- the register before a stage
abbrev pub before : ℕ → List Entry → Entry
before stage registers = slice_index_or registers (stage - 1) None

-- a tap sees the packet in a register, if there is one
abbrev pub has_looked : ℕ → Entry → TapForm → TapForm
has_looked cycle None tap = tap
has_looked cycle (Some words) tap = has_seen cycle words tap

-- an attached tap after a cycle from these registers
abbrev pub after_cycle : ℕ → List Entry → AttachedForm → AttachedForm
after_cycle cycle registers a = record { stage = a.stage; tap = has_looked cycle (before a.stage registers) a.tap }

-- what attached boxes are, where each box has a form
module _ {B : Type 0} {depth : ℕ} (form : B → TapForm) where
  abbrev pub attached_form : Attached B depth → AttachedForm
  attached_form a = record { stage = a.stage; tap = form a.tap }

  abbrev pub attached_forms : List (Attached B depth) → List AttachedForm
  attached_forms taps = map attached_form taps

  abbrev pub tapped_form : MachineForm → ℕ → List (Attached B depth) → TappedForm
  tapped_form machine cycle taps = record { machine = machine; cycle = cycle; taps = attached_forms taps }
