-- What holds of the parts of every legal configuration: its numbers, its stages and its outputs.
use Rattle.std.specs.Prelude.{◌≡◌, ℕ, ◌≤◌, true, List, [], length}
use Rattle.std.specs.List.{AllByRecursion, flat_map, list_all}
use Rattle.dom_words.specs.State.{state_words}
use Rattle.banzai_config.specs.Legal.{Shape, Standing, are_apart, are_below, are_known, are_new, has_good_numbers, has_pattern, standing}
use Rattle.banzai_config.specs.Named.{port_reads, reads_of, stage_arrays, stage_targets}
use Rattle.banzai_config.specs.Parts.{PartsForm, StageForm, atoms_of}

-- how many fields, arrays, words and containers there are
pub record AreNumbersLegal (p : PartsForm) : Type 0 where
  pub some_fields : 1 ≤ length p.fields
  pub few_fields : length p.fields ≤ 64
  pub few_arrays : length p.arrays ≤ 32
  pub few_words : state_words p.arrays ≤ 1048576
  pub room_for_fields : length p.fields ≤ p.containers
  pub few_containers : p.containers ≤ 2048

-- the containers that a stage reads
abbrev pub stage_reads : StageForm → List ℕ
stage_reads stage = flat_map reads_of (atoms_of stage)

-- a stage and those before it: what it names is there, and its trees fit; it reads fields and what earlier stages write;
-- and what it writes it reads nowhere and writes once
pub record IsStageLegal (shape : Shape) (p : PartsForm) (s : Standing StageForm) : Type 0 where
  pub reads_there : are_below p.containers (stage_reads s.item) ≡ true
  pub targets_there : are_below p.containers (stage_targets s.item) ≡ true
  pub arrays_there : are_below (length p.arrays) (stage_arrays s.item) ≡ true
  pub numbers : list_all has_good_numbers (atoms_of s.item) ≡ true
  pub patterns : list_all (has_pattern shape) (atoms_of s.item) ≡ true
  pub known : are_known (length p.fields) (flat_map stage_targets s.before) (stage_reads s.item) ≡ true
  pub apart : are_apart (stage_reads s.item) (stage_targets s.item) ≡ true
  pub once : are_new [] (stage_targets s.item) ≡ true

-- each stage, with those before it
abbrev pub AreStagesLegal : Shape → PartsForm → Type 0
AreStagesLegal shape p = AllByRecursion (IsStageLegal shape p) (standing p.stages)

-- an output for each field, which shows a field or what a stage writes
pub record AreOutputsLegal (p : PartsForm) : Type 0 where
  pub as_fields : length p.outputs ≡ length p.fields
  pub there : are_below p.containers (flat_map port_reads p.outputs) ≡ true
  pub known : are_known (length p.fields) (flat_map stage_targets p.stages) (flat_map port_reads p.outputs) ≡ true
