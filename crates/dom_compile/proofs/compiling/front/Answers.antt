use Rattle.std.proofs.Common.{map, nat_eq, not, ◌∙◌}
use Rattle.atom_match.specs.Atoms.{atom_form}
use Rattle.dom_compile.specs.Answer.{IsFrontFault}
use Rattle.dom_compile.specs.Layers.{of_match}
use Rattle.dom_compile.proofs.Causes.{map_some, match_cause}
use Rattle.dom_compile.proofs.InOrder.{is_front}
use Rattle.dom_compile.proofs.Listed.{renamed_cause}
use Rattle.dom_compile.proofs.Names.{arrays_named, fields_named}
use Rattle.dom_compile.proofs.compiling.front.Goals as goal

pub returns-in_err-atoms-clause-refused : goal.returns-in_err-atoms-clause-refused
returns-in_err-atoms-clause-refused g c =
    renamed_cause c.from_residual-in_err-atoms.result (λ fault. IsFrontFault g.T.AtomTemplate.fits (not (nat_eq g.row.MUL 0)) c.args.text.now fault)
    (of_match c.in_err-atoms.field-0.0) c.from_residual-in_err-atoms.ensures.1
    (match_cause g.T.AtomTemplate.fits (not (nat_eq g.row.MUL 0)) c.args.text.now c.in_ok-codelets.codelets c.in_ok-codelets.ensures.list c.in_err-atoms.field-0.0 c.in_err-atoms.ensures.refused)

pub returns-clause-atoms : goal.returns-clause-atoms
returns-clause-atoms g c = map_some (atom_form g.T.AtomTemplate.trees_of) c.in_ok-atoms.atoms.list ∙ c.in_ok-atoms.ensures.atoms

pub returns-clause-program : goal.returns-clause-program
returns-clause-program g c =
    is_front c.args.text.now c.in_ok-codelets.codelets (map (atom_form g.T.AtomTemplate.trees_of) c.in_ok-atoms.atoms.list) c.in_ok-codelets.ensures.list
    (map_some (atom_form g.T.AtomTemplate.trees_of) c.in_ok-atoms.atoms.list ∙ c.in_ok-atoms.ensures.atoms)

pub returns-clause-fields : goal.returns-clause-fields
returns-clause-fields g c = fields_named c.args.text.now c.in_ok-codelets.codelets.flat c.in_ok-codelets.ensures.list

pub returns-clause-arrays : goal.returns-clause-arrays
returns-clause-arrays g c = arrays_named c.args.text.now c.in_ok-codelets.codelets.flat c.in_ok-codelets.ensures.list
