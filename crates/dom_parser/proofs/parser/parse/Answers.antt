use Rattle.dom_ast.specs.Form.{program_form}
use Rattle.dom_parser.proofs.OneStruct.{spelled_struct}
use Rattle.dom_parser.proofs.Sizes.{few_nodes, few_nested}
use Rattle.dom_parser.proofs.TooMany.{first_fault}
use Rattle.dom_parser.proofs.Whole.{parsed, no_program}
use Rattle.dom_parser.proofs.parser.parse.Goals as goal

pub returns-in-Ok-clause-ok : goal.returns-in-Ok-clause-ok
returns-in-Ok-clause-ok c = parsed (program_form c.in-Ok.program) c.args.tokens.now.items c.as_slice.result.now c.as_slice.ensures c.in-Ok.ensures.ok

pub returns-in-Err-clause-fault : goal.returns-in-Err-clause-fault
returns-in-Err-clause-fault c = first_fault c.args.tokens.now.items c.as_slice.result.now c.args.tokens.now.end c.in-Err.fault c.located.result c.as_slice.ensures c.located.ensures c.in-Err.ensures.err

pub returns-in-Err-clause-none : goal.returns-in-Err-clause-none
returns-in-Err-clause-none c = no_program c.args.tokens.now.items c.as_slice.result.now c.args.tokens.now.end c.in-Err.fault c.located.result c.as_slice.ensures c.located.ensures c.in-Err.ensures.err

pub returns-in-Ok-clause-nodes : goal.returns-in-Ok-clause-nodes
returns-in-Ok-clause-nodes c = few_nodes (program_form c.in-Ok.program) c.args.tokens.now.items (parsed (program_form c.in-Ok.program) c.args.tokens.now.items c.as_slice.result.now c.as_slice.ensures c.in-Ok.ensures.ok)

pub returns-in-Ok-clause-nested : goal.returns-in-Ok-clause-nested
returns-in-Ok-clause-nested c = few_nested (program_form c.in-Ok.program) c.args.tokens.now.items (parsed (program_form c.in-Ok.program) c.args.tokens.now.items c.as_slice.result.now c.as_slice.ensures c.in-Ok.ensures.ok)

pub returns-in-Ok-clause-one_struct : goal.returns-in-Ok-clause-one_struct
returns-in-Ok-clause-one_struct c = spelled_struct (program_form c.in-Ok.program) c.args.tokens.now.items (parsed (program_form c.in-Ok.program) c.args.tokens.now.items c.as_slice.result.now c.as_slice.ensures c.in-Ok.ensures.ok)
