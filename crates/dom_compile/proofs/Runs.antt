-- A configuration that a text compiles to does what the text's program does.
use Rattle.std.proofs.Common.{◌≡◌, ℕ, Bool, List, [], ◌∷◌, length, refl, sym, ap, ◌∙◌, subst, Ok}
use Rattle.std.specs.List.{AllByRecursion}
use Rattle.dom_words.specs.declared.array.Array.{Array}
use Rattle.dom_words.specs.State.{Hash, IsStateOf, Meaning, started}
use Rattle.codelets.specs.declared.answer.Codelets.{Codelets}
use Rattle.stage_plan.specs.declared.place.Place.{Place}
use Rattle.stage_plan.specs.Schedule.{IsPlan}
use Rattle.stage_plan.proofs.Kept.{is_plan}
use Rattle.atom_traits.specs.Form.{TreesForm}
use Rattle.atom_match.specs.Atoms.{AtomForm}
use Rattle.banzai_config.specs.Action.{AloneOutcome, Arrays, alone, outcome_of}
use Rattle.banzai_config.specs.Legal.{LegalFor, Shape}
use Rattle.banzai_config.specs.Parts.{PartsForm}
use Rattle.compile_law.specs.Runs.{IsMeaningOf, in_turn}
use Rattle.compile_law.proofs.Compiled.{does_as_listed}
use Rattle.compile_law.proofs.Turns as turns
use Rattle.compile_law.specs.Compiled.{AreAtomsOf, compiled_parts}
use Rattle.container_plan.specs.Shared.{shared}
use Rattle.container_plan.proofs.Lawful.{legal_one, narrow}
use Rattle.container_plan.proofs.Legal.{room}
use Rattle.container_plan.proofs.Meaning.{alone_same, one_same}
use Rattle.dom_ast.specs.Meaning.{one_packet, serial_arrays, serial_packets}
use Rattle.dom_ast.specs.Resolved.{BodyForm, CheckedForm}
use Rattle.dom_compile.specs.Answer.{IsCompileAnswer, IsConfigured, IsFitted}
use Rattle.dom_compile.specs.Compiled.{IsListed}
use Rattle.dom_compile.specs.Programs.{IsWellFormed}
use Rattle.dom_compile.specs.Runs.{ActsAs, RunsAs}
use Rattle.dom_compile.proofs.OneProgram.{one_program}

-- One packet after another is the serial run, where one packet is what the transactions make of it.

module _ (hash : Hash) (bodies : List BodyForm) where
  packets_in_turn : (state : Arrays) (packets : List (List ℕ)) → (in_turn (one_packet hash bodies) state packets).packets ≡ serial_packets hash bodies state packets
  packets_in_turn state [] = refl
  packets_in_turn state (p ∷ ps) = ap (λ (z : List (List ℕ)). (one_packet hash bodies p state).packet ∷ z) (packets_in_turn (one_packet hash bodies p state).arrays ps)

  arrays_in_turn : (state : Arrays) (packets : List (List ℕ)) → (in_turn (one_packet hash bodies) state packets).arrays ≡ serial_arrays hash bodies state packets
  arrays_in_turn state [] = refl
  arrays_in_turn state (p ∷ ps) = arrays_in_turn (one_packet hash bodies p state).arrays ps

abbrev means : CheckedForm → Meaning
means program hash packet state = one_packet hash program.bodies packet state

module _ (s : Shape) (program : CheckedForm) (c : Codelets) (listed : IsListed program c.flat) (atoms : List AtomForm) (places : List Place) (atoms_are : AreAtomsOf c atoms)
    (plan : IsPlan s.depth s.stateless s.stateful c.list places) (unshared : LegalFor s (compiled_parts c s.depth atoms places)) where
  meaning : IsMeaningOf c.flat (means program)
  meaning hash packet state small words declared =
      listed.means hash packet state small (words ∙ ap (length {A = List ℕ}) listed.fields) (subst (λ (arrays : List Array). IsStateOf arrays state) listed.arrays declared)

  -- the parts with one container for each value
  abbrev own : PartsForm
  own = compiled_parts c s.depth atoms places

  shared_acts : (hash : Hash) (state : Arrays) (packet : List ℕ) → length packet ≡ length c.flat.fields → outcome_of hash (shared own) state packet ≡ outcome_of hash own state packet
  shared_acts hash = one_same hash own (legal_one s own unshared refl) (narrow s own unshared) (room s own unshared refl)

  shared_runs : (hash : Hash) (packets : List (List ℕ)) → AllByRecursion (λ p. length p ≡ length c.flat.fields) packets → alone hash (shared own) packets ≡ alone hash own packets
  shared_runs hash = alone_same hash own (legal_one s own unshared refl) (narrow s own unshared) (room s own unshared refl) (started own.arrays)

  listed_acts : ActsAs program (shared own)
  listed_acts hash packet state small words declared =
      let long : length packet ≡ length c.flat.fields = words ∙ sym (ap (length {A = List ℕ}) listed.fields) in
      shared_acts hash state packet long
      ∙ does_as_listed c s.depth s.stateless s.stateful atoms places atoms_are plan hash state packet long
      ∙ listed.means hash packet state small words declared

  listed_runs : RunsAs program (shared own)
  listed_runs hash packets small long =
      let full : AllByRecursion (λ p. length p ≡ length c.flat.fields) packets =
      subst (λ (fields : List (List ℕ)). AllByRecursion (λ p. length p ≡ length fields) packets) (sym listed.fields) long in
      let same : alone hash (shared own) packets ≡ in_turn (one_packet hash program.bodies) (started program.arrays) packets =
      shared_runs hash packets full
      ∙ turns.runs_as c s.depth s.stateless s.stateful atoms places atoms_are plan (means program) meaning hash packets small full
      ∙ ap (λ (arrays : List Array). in_turn (one_packet hash program.bodies) (started arrays) packets) listed.arrays in
      record {
        packets_are = ap (λ (o : AloneOutcome). o.packets) same ∙ packets_in_turn hash program.bodies (started program.arrays) packets;
        arrays_are = ap (λ (o : AloneOutcome). o.arrays) same ∙ arrays_in_turn hash program.bodies (started program.arrays) packets;
      }

-- the program of the text is the one that it was compiled as
listed_for : (fits : TreesForm → Bool) (multiplies : Bool) (text : List ℕ) (program : CheckedForm) (c : Codelets) → IsWellFormed text program → IsFitted fits multiplies text c → IsListed program c.flat
listed_for fits multiplies text program c well fitted =
    let e = one_program text (Ok fitted.listed.program) (Ok program) fitted.listed.program_is well in
    let same : fitted.listed.program ≡ program = cc in
    subst (λ (p : CheckedForm). IsListed p c.flat) same fitted.listed.listed_is

pub placed_acts : (s : Shape) (text : List ℕ) (program : CheckedForm) (c : Codelets) (atoms : List AtomForm) (places : List Place) → IsWellFormed text program → IsFitted s.fits s.multiplies text c → AreAtomsOf c atoms
    → IsPlan s.depth s.stateless s.stateful c.list places → LegalFor s (compiled_parts c s.depth atoms places) → ActsAs program (shared (compiled_parts c s.depth atoms places))
placed_acts s text program c atoms places well fitted = listed_acts s program c (listed_for s.fits s.multiplies text program c well fitted) atoms places

pub placed_runs : (s : Shape) (text : List ℕ) (program : CheckedForm) (c : Codelets) (atoms : List AtomForm) (places : List Place) → IsWellFormed text program → IsFitted s.fits s.multiplies text c → AreAtomsOf c atoms
    → IsPlan s.depth s.stateless s.stateful c.list places → LegalFor s (compiled_parts c s.depth atoms places) → RunsAs program (shared (compiled_parts c s.depth atoms places))
placed_runs s text program c atoms places well fitted = listed_runs s program c (listed_for s.fits s.multiplies text program c well fitted) atoms places

scheduled : (s : Shape) (c : Codelets) (parts : PartsForm) (configured : IsConfigured s c parts) → IsPlan s.depth s.stateless s.stateful c.list configured.places
scheduled s c parts configured = is_plan s.depth s.stateless s.stateful c.list configured.places c.leveled configured.placed

pub acts_as : (s : Shape) (text : List ℕ) (program : CheckedForm) (parts : PartsForm) → IsWellFormed text program → IsCompileAnswer s text (Ok parts) → ActsAs program parts
acts_as s text program parts well (c, fitted, is) =
    subst (λ (p : PartsForm). ActsAs program p) (sym is.parts_are) (placed_acts s text program c is.atoms is.places well fitted is.atoms_are (scheduled s c parts is) is.unshared)

pub runs_as : (s : Shape) (text : List ℕ) (program : CheckedForm) (parts : PartsForm) → IsWellFormed text program → IsCompileAnswer s text (Ok parts) → RunsAs program parts
runs_as s text program parts well (c, fitted, is) =
    subst (λ (p : PartsForm). RunsAs program p) (sym is.parts_are) (placed_runs s text program c is.atoms is.places well fitted is.atoms_are (scheduled s c parts is) is.unshared)
