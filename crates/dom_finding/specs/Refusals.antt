-- Refusals: with which status a call ends, and the line that it puts.
use Rattle.std.specs.Prelude.{ℕ, List, [], ◌∷◌, codes, map}
use Rattle.trace_text.specs.Lines.{count_text, line_of}
use Rattle.trace_text.specs.declared.trace.TraceFault.{TraceFault}
use Rattle.trace_text.specs.declared.trace.TraceFault.TheVariants as trace
use Rattle.dom_lexer.specs.declared.token.LexFault.TheVariants as lex
use Rattle.dom_parser.specs.declared.faults.ParseFault.TheVariants as parse
use Rattle.dom_checks.specs.declared.faults.CheckFault.TheVariants as check
use Rattle.dom_checks.specs.declared.faults.Limit.TheVariants as limit
use Rattle.trace_text.specs.Trace as told
use Rattle.banzai_config.specs.declared.fault.ConfigKind.{ConfigKind}
use Rattle.banzai_config.specs.declared.fault.ConfigKind.TheVariants as rule
use Rattle.codelets.specs.declared.codelet.Kind.{Kind}
use Rattle.codelets.specs.declared.codelet.Kind.TheVariants.{Stateless, Stateful}
use Rattle.dom_compile.specs.Verdict.{ProgramFault, of_bytes, of_names, of_tokens}
use Rattle.dom_compile.specs.Answer.{CompileRefusal, full, ill_formed, outside, too_deep, too_many}
use Rattle.dom_finding.specs.Configs.{ConfigRefusal, bad_line, illegal, unknown_target}
use Rattle.plan_check.specs.declared.fault.HandFault.{HandFault}
use Rattle.plan_check.specs.declared.fault.HandFault.TheVariants as hand
use Rattle.dom_finding.specs.declared.refusals.Refusal.{Refusal}
use Rattle.dom_finding.specs.declared.refusals.Refusal.TheVariants as refusal

-- words, and the numbers of a place
abbrev pub placed : List ℕ → List ℕ → List ℕ
placed words numbers = line_of (words ∷ map count_text numbers)

-- what is put of a program's first fault; want of memory is told in another way
abbrev pub program_line : ProgramFault → List ℕ
program_line (of_bytes (lex.BadByte at)) = placed (codes "refused,lex,bad-byte") (at ∷ [])
program_line (of_bytes (lex.OpenComment at)) = placed (codes "refused,lex,open-comment") (at ∷ [])
program_line (of_bytes (lex.BigLiteral at)) = placed (codes "refused,lex,big-literal") (at ∷ [])
program_line (of_bytes (lex.TooManyTokens at)) = placed (codes "refused,lex,too-many-tokens") (at ∷ [])
program_line (of_bytes lex.Memory) = []
program_line (of_tokens (parse.Forbidden at)) = placed (codes "refused,parse,forbidden") (at ∷ [])
program_line (of_tokens (parse.Unexpected at)) = placed (codes "refused,parse,unexpected") (at ∷ [])
program_line (of_tokens (parse.TooNested at)) = placed (codes "refused,parse,too-nested") (at ∷ [])
program_line (of_tokens parse.Memory) = []
program_line (of_names (check.Twice at)) = placed (codes "refused,check,twice") (at ∷ [])
program_line (of_names (check.UnknownName at)) = placed (codes "refused,check,unknown-name") (at ∷ [])
program_line (of_names (check.ShapeOfName at)) = placed (codes "refused,check,shape-of-name") (at ∷ [])
program_line (of_names (check.BadIndex at)) = placed (codes "refused,check,bad-index") (at ∷ [])
program_line (of_names (check.TwoIndexes at)) = placed (codes "refused,check,two-indexes") (at ∷ [])
program_line (of_names (check.IndexAssignedLater at)) = placed (codes "refused,check,index-assigned-later") (at ∷ [])
program_line (of_names (check.HashArgs at)) = placed (codes "refused,check,hash-args") (at ∷ [])
program_line (of_names (check.TooLarge limit.Fields at)) = placed (codes "refused,check,too-large-fields") (at ∷ [])
program_line (of_names (check.TooLarge limit.Arrays at)) = placed (codes "refused,check,too-large-arrays") (at ∷ [])
program_line (of_names (check.TooLarge limit.Length at)) = placed (codes "refused,check,too-large-length") (at ∷ [])
program_line (of_names (check.TooLarge limit.Words at)) = placed (codes "refused,check,too-large-words") (at ∷ [])
program_line (of_names check.Memory) = []

abbrev pub kind_text : Kind → List ℕ
kind_text Stateless = codes "stateless"
kind_text Stateful = codes "stateful"

-- a codelet, and a stage that is full of a kind
abbrev pub full_line : ℕ → Kind → ℕ → List ℕ
full_line codelet kind stage = line_of (codes "refused,full" ∷ count_text codelet ∷ kind_text kind ∷ count_text stage ∷ [])

-- a stage of a plan, and the kind of which it has too many atoms
abbrev pub wide_line : ℕ → Kind → List ℕ
wide_line stage kind = line_of (codes "refused,plan,wide" ∷ count_text stage ∷ kind_text kind ∷ [])

-- the rule of a configuration that is broken
abbrev pub rule_text : ConfigKind → List ℕ
rule_text rule.Depth = codes "refused,config,depth"
rule_text rule.Width = codes "refused,config,width"
rule_text rule.BadNumber = codes "refused,config,bad-number"
rule_text rule.MulOperator = codes "refused,config,mul-operator"
rule_text rule.WideConstant = codes "refused,config,wide-constant"
rule_text rule.Pattern = codes "refused,config,pattern"
rule_text rule.ArrayTwice = codes "refused,config,array-twice"
rule_text rule.ReadBeforeWrite = codes "refused,config,read-before-write"
rule_text rule.ContainerTwice = codes "refused,config,container-twice"

-- with its stage and its atom
abbrev pub rule_line : ConfigKind → ℕ → ℕ → List ℕ
rule_line kind stage atom = placed (rule_text kind) (stage ∷ atom ∷ [])

abbrev pub trace_line : TraceFault → List ℕ
trace_line trace.NoHeader = placed (codes "refused,trace,no-header") []
trace_line (trace.UnknownColumn c) = placed (codes "refused,trace,unknown-column") (c ∷ [])
trace_line (trace.ColumnTwice c) = placed (codes "refused,trace,column-twice") (c ∷ [])
trace_line (trace.RowLength r) = placed (codes "refused,trace,row-length") (r ∷ [])
trace_line (trace.BadValue r c) = placed (codes "refused,trace,value") (r ∷ c ∷ [])
trace_line (trace.TooManyCycles cycles) = placed (codes "refused,trace,cycles") (cycles ∷ [])
trace_line trace.Memory = []

-- the line where the words are of no form
abbrev pub words_line : List ℕ
words_line = codes "refused,words\n"

abbrev pub refusal_line : Refusal → List ℕ
refusal_line refusal.ProgramLimit = placed (codes "refused,limit,program") []
refusal_line (refusal.Lex fault) = program_line (of_bytes fault)
refusal_line (refusal.Parse fault) = program_line (of_tokens fault)
refusal_line (refusal.Check fault) = program_line (of_names fault)
refusal_line (refusal.Statements n) = placed (codes "refused,statements") (n ∷ [])
refusal_line (refusal.Outside codelet) = placed (codes "refused,outside") (codelet ∷ [])
refusal_line (refusal.Deep chain) = placed (codes "refused,deep") chain
refusal_line (refusal.Full codelet kind stage) = full_line codelet kind stage
refusal_line refusal.ConfigLimit = placed (codes "refused,limit,config") []
refusal_line (refusal.ConfigLine n) = placed (codes "refused,config,line") (n ∷ [])
refusal_line refusal.UnknownTarget = placed (codes "refused,config,unknown-target") []
refusal_line (refusal.Config kind stage atom) = rule_line kind stage atom
refusal_line (refusal.Stage depth) = placed (codes "refused,stage") (depth ∷ [])
refusal_line refusal.Rank = placed (codes "refused,rank") []
refusal_line refusal.TraceLimit = placed (codes "refused,limit,trace") []
refusal_line (refusal.Trace fault) = trace_line fault
refusal_line refusal.EventsLimit = placed (codes "refused,limit,events") []
refusal_line (refusal.Events n) = placed (codes "refused,events") (n ∷ [])
refusal_line refusal.PlanLimit = placed (codes "refused,limit,plan") []
refusal_line (refusal.PlanLine n) = placed (codes "refused,plan,line") (n ∷ [])
refusal_line (refusal.PlanEarly codelet used) = placed (codes "refused,plan,early") (codelet ∷ used ∷ [])
refusal_line (refusal.PlanWide stage kind) = wide_line stage kind

-- the program is refused with 1, and what else a command is given with 3
abbrev pub refusal_status : Refusal → ℕ
refusal_status refusal.ProgramLimit = 1
refusal_status (refusal.Lex fault) = 1
refusal_status (refusal.Parse fault) = 1
refusal_status (refusal.Check fault) = 1
refusal_status (refusal.Statements n) = 1
refusal_status (refusal.Outside codelet) = 1
refusal_status (refusal.Deep chain) = 1
refusal_status (refusal.Full codelet kind stage) = 1
refusal_status _ = 3

-- The refusal of what a text is not.

-- the fault that tells a refusal of a trace
abbrev pub fault_of : told.Refusal → TraceFault
fault_of told.no_header = trace.NoHeader
fault_of (told.unknown_column c) = trace.UnknownColumn c
fault_of (told.column_twice c) = trace.ColumnTwice c
fault_of (told.row_length r) = trace.RowLength r
fault_of (told.bad_value r c) = trace.BadValue r c
fault_of (told.too_many_cycles cycles) = trace.TooManyCycles cycles

abbrev pub refused_trace : told.Refusal → Refusal
refused_trace r = refusal.Trace (fault_of r)

abbrev pub refused_program : ProgramFault → Refusal
refused_program (of_bytes fault) = refusal.Lex fault
refused_program (of_tokens fault) = refusal.Parse fault
refused_program (of_names fault) = refusal.Check fault

-- a program without a configuration for the target
abbrev pub refused_compile : CompileRefusal → Refusal
refused_compile (ill_formed fault) = refused_program fault
refused_compile (too_many n) = refusal.Statements n
refused_compile (outside codelet) = refusal.Outside codelet
refused_compile (too_deep chain) = refusal.Deep chain
refused_compile (full codelet kind stage) = refusal.Full codelet kind stage

abbrev pub refused_config : ConfigRefusal → Refusal
refused_config (bad_line n) = refusal.ConfigLine n
refused_config unknown_target = refusal.UnknownTarget
refused_config (illegal v) = refusal.Config v.kind v.stage v.atom

abbrev pub refused_events : ℕ → Refusal
refused_events n = refusal.Events n

abbrev pub refused_plan : ℕ → Refusal
refused_plan n = refusal.PlanLine n

abbrev pub refused_hand : HandFault → Refusal
refused_hand (hand.Early codelet used) = refusal.PlanEarly codelet used
refused_hand (hand.Wide stage kind) = refusal.PlanWide stage kind
