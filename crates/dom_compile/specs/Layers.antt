-- A fault of a layer as a fault of the compiler: want of memory is want of memory in each.
use Rattle.dom_lexer.specs.declared.token.LexFault.{LexFault}
use Rattle.dom_lexer.specs.declared.token.LexFault.TheVariants as lex
use Rattle.dom_parser.specs.declared.faults.ParseFault.{ParseFault}
use Rattle.dom_parser.specs.declared.faults.ParseFault.TheVariants as parse
use Rattle.dom_checks.specs.declared.faults.CheckFault.{CheckFault}
use Rattle.dom_checks.specs.declared.faults.CheckFault.TheVariants as check
use Rattle.three_address.specs.declared.fault.FlatFault.{FlatFault}
use Rattle.three_address.specs.declared.fault.FlatFault.TheVariants as flat
use Rattle.atom_match.specs.declared.fault.MatchFault.{MatchFault}
use Rattle.atom_match.specs.declared.fault.MatchFault.TheVariants as match_fault
use Rattle.stage_plan.specs.declared.fault.PlanFault.{PlanFault}
use Rattle.stage_plan.specs.declared.fault.PlanFault.TheVariants as plan
use Rattle.dom_compile.specs.declared.faults.CompileFault.{CompileFault}
use Rattle.dom_compile.specs.declared.faults.CompileFault.TheVariants as fault

abbrev pub of_lex : LexFault → CompileFault
of_lex (lex.BadByte at) = fault.Lex (lex.BadByte at)
of_lex (lex.OpenComment at) = fault.Lex (lex.OpenComment at)
of_lex (lex.BigLiteral at) = fault.Lex (lex.BigLiteral at)
of_lex (lex.TooManyTokens at) = fault.Lex (lex.TooManyTokens at)
of_lex lex.Memory = fault.Memory

abbrev pub of_parse : ParseFault → CompileFault
of_parse (parse.Forbidden at) = fault.Parse (parse.Forbidden at)
of_parse (parse.Unexpected at) = fault.Parse (parse.Unexpected at)
of_parse (parse.TooNested at) = fault.Parse (parse.TooNested at)
of_parse parse.Memory = fault.Memory

abbrev pub of_check : CheckFault → CompileFault
of_check (check.Twice at) = fault.Check (check.Twice at)
of_check (check.UnknownName at) = fault.Check (check.UnknownName at)
of_check (check.ShapeOfName at) = fault.Check (check.ShapeOfName at)
of_check (check.BadIndex at) = fault.Check (check.BadIndex at)
of_check (check.TwoIndexes at) = fault.Check (check.TwoIndexes at)
of_check (check.IndexAssignedLater at) = fault.Check (check.IndexAssignedLater at)
of_check (check.HashArgs at) = fault.Check (check.HashArgs at)
of_check (check.TooLarge limit at) = fault.Check (check.TooLarge limit at)
of_check check.Memory = fault.Memory

abbrev pub of_flat : FlatFault → CompileFault
of_flat (flat.TooManyStatements n) = fault.TooManyStatements n
of_flat flat.Memory = fault.Memory

abbrev pub of_match : MatchFault → CompileFault
of_match (match_fault.Outside n) = fault.Outside n
of_match match_fault.Memory = fault.Memory

abbrev pub of_plan : PlanFault → CompileFault
of_plan (plan.TooDeep chain) = fault.TooDeep chain
of_plan (plan.Full codelet kind stage) = fault.Full codelet kind stage
of_plan plan.Memory = fault.Memory
