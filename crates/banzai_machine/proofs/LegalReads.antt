-- In a legal configuration no atom reads what an earlier one of its stage writes.
use Rattle.std.proofs.Common.{◌≡◌, true, List, [], ◌∷◌}
use Rattle.std.specs.List.{flat_map}
use Rattle.banzai_config.specs.Legal.{LegalFor, Shape, Standing, are_apart, standing_after}
use Rattle.banzai_config.specs.Named.{reads_of, targets_of}
use Rattle.banzai_config.specs.Parts.{Atom, PartsForm, StageForm, atoms_of}
use Rattle.banzai_config.specs.Stages.{IsStageLegal}
use Rattle.banzai_config.proofs.Apart.{apart_later, apart_rest}
use Rattle.banzai_config.proofs.Staged.{legal_stages}
use Rattle.banzai_machine.specs.InPlace.{NoneReads, NoneReadsIn}
use Rattle.banzai_machine.proofs.Every.{Every-weaker}
use Rattle.banzai_machine.proofs.LegalOwns.{every_item}

none_reads : (atoms : List Atom) → are_apart (flat_map reads_of atoms) (flat_map targets_of atoms) ≡ true → NoneReads atoms
none_reads [] e = tt
none_reads (x ∷ atoms) e = (apart_later reads_of targets_of x atoms e, none_reads atoms (apart_rest reads_of targets_of x atoms e))

pub legal_reads : (s : Shape) (p : PartsForm) → LegalFor s p → NoneReadsIn p.stages
legal_reads s p legal =
    every_item (λ stage. NoneReads (atoms_of stage)) [] p.stages
    (Every-weaker (IsStageLegal s p) (λ (st : Standing StageForm). NoneReads (atoms_of st.item)) (λ st h. none_reads (atoms_of st.item) h.apart)
    (standing_after [] p.stages) (legal_stages s p legal))
