-- Why a command stops before it puts anything.
use Rattle.std.specs.Prelude.{◌≡◌, ⊤, ℕ, ◌<◌, ◌≤◌, ◌⊎◌, Option, List, length, Result, Err}
use Rattle.dom_io.specs.Causes.{Rose}
use Rattle.trace_text.specs.Trace.{IsTraceOf}
use Rattle.trace_text.specs.declared.events.EventsFault.{EventsFault}
use Rattle.trace_text.specs.declared.events.EventsFault.TheVariants as events
use Rattle.trace_text.specs.declared.trace.TraceFault.{TraceFault}
use Rattle.trace_text.specs.declared.trace.TraceFault.TheVariants as fault
use Rattle.dom_lexer.specs.declared.token.LexFault.{LexFault}
use Rattle.dom_lexer.specs.declared.token.LexFault.TheVariants as lex
use Rattle.dom_parser.specs.declared.faults.ParseFault.{ParseFault}
use Rattle.dom_parser.specs.declared.faults.ParseFault.TheVariants as parse
use Rattle.dom_checks.specs.declared.faults.CheckFault.{CheckFault}
use Rattle.dom_checks.specs.declared.faults.CheckFault.TheVariants as check
use Rattle.banzai_config.specs.declared.fault.ConfigFault.{ConfigFault}
use Rattle.banzai_config.specs.declared.fault.ConfigFault.TheVariants as illegal
use Rattle.config_text.specs.declared.fault.ReadFault.{ReadFault}
use Rattle.config_text.specs.declared.fault.ReadFault.TheVariants as read
use Rattle.plan_check.specs.declared.fault.PlanTextFault.{PlanTextFault}
use Rattle.plan_check.specs.declared.fault.PlanTextFault.TheVariants as plan
use Rattle.dom_compile.specs.declared.faults.CompileFault.{CompileFault}
use Rattle.dom_compile.specs.declared.faults.CompileFault.TheVariants as compile
use Rattle.dom_finding.specs.Command.{Command}
use Rattle.dom_finding.specs.Finding.{Ask, IsFoundAfter, IsUnreadAfter, MayHold}
use Rattle.dom_finding.specs.Refusals.{refused_trace}
use Rattle.dom_finding.specs.declared.reading.Stop.{Stop}
use Rattle.dom_finding.specs.declared.reading.Stop.TheVariants.{Refused, Unread, Memory}
use Rattle.dom_finding.specs.declared.refusals.Refusal.{Refusal}
use Rattle.dom_finding.specs.declared.refusals.Refusal.TheVariants as refusal

-- no count of the shelf moved
abbrev pub AreKept : (List ℕ → ℕ) → (List ℕ → ℕ) → Type 0
AreKept before now = (name : List ℕ) → now name ≡ before name

-- no count of the shelf fell
abbrev pub HaveNotFallen : (List ℕ → ℕ) → (List ℕ → ℕ) → Type 0
HaveNotFallen before now = (name : List ℕ) → before name ≤ now name

-- a text that the file may hold, within its limit
abbrev pub IsText : (List ℕ → Option (List ℕ)) → Ask → List ℕ → Type 0
IsText files a text = MayHold files a.name text × (length text ≤ a.most)

-- a file gave no text within its limit: it is longer, it could not be read, or memory is wanting
abbrev pub FileStop : (List ℕ → Option (List ℕ)) → (List ℕ → ℕ) → (List ℕ → ℕ) → Ask → Stop → Type 0
FileStop files before now a (Refused r) =
    ((text : List ℕ) × MayHold files a.name text × (a.most < length text)) × (r ≡ a.over) × AreKept before now
FileStop files before now a Unread = HaveNotFallen before now × Rose (before a.name) (now a.name)
FileStop files before now a Memory = AreKept before now

-- a text is refused by what it is, or memory is wanting
abbrev pub TextStop : {X F : Type 0} → (Result X F → Type 0) → (F → Refusal) → Stop → Type 0
TextStop {X} {F} Is refuse (Refused r) = (fault : F) × Is (Err fault) × (r ≡ refuse fault)
TextStop {X} {F} Is refuse Unread = ⊥
TextStop {X} {F} Is refuse Memory = ⊤

-- a trace stops a command: its file gave no text, or the text is no trace for these fields and this depth
abbrev pub TraceStop : (List ℕ → Option (List ℕ)) → (List ℕ → ℕ) → (List ℕ → ℕ) → Ask → List (List ℕ) → ℕ → Stop → Type 0
TraceStop files before now a fields depth stop =
    FileStop files before now a stop
    ⊎ ((text : List ℕ) × IsText files a text × AreKept before now × TextStop (IsTraceOf text fields depth) refused_trace stop)

-- why there is nothing to put, after these texts: what was found, a file that could not be read, or want of memory
abbrev pub StopAfter : Command → List (List ℕ) → (List ℕ → Option (List ℕ)) → (List ℕ → ℕ) → (List ℕ → ℕ) → Stop → Type 0
StopAfter command texts files before now (Refused r) = IsFoundAfter (MayHold files) command texts (Err r) × AreKept before now
StopAfter command texts files before now Unread = IsUnreadAfter (MayHold files) command texts before now × HaveNotFallen before now
StopAfter command texts files before now Memory = AreKept before now

-- a fault of a trace refuses it, and want of memory stops
abbrev pub trace_stop : TraceFault → Stop
trace_stop fault.NoHeader = Refused (refusal.Trace fault.NoHeader)
trace_stop (fault.UnknownColumn c) = Refused (refusal.Trace (fault.UnknownColumn c))
trace_stop (fault.ColumnTwice c) = Refused (refusal.Trace (fault.ColumnTwice c))
trace_stop (fault.RowLength r) = Refused (refusal.Trace (fault.RowLength r))
trace_stop (fault.BadValue r c) = Refused (refusal.Trace (fault.BadValue r c))
trace_stop (fault.TooManyCycles cycles) = Refused (refusal.Trace (fault.TooManyCycles cycles))
trace_stop fault.Memory = Memory

-- a fault of events refuses them, and want of memory stops
abbrev pub events_stop : EventsFault → Stop
events_stop (events.Line n) = Refused (refusal.Events n)
events_stop events.Memory = Memory

-- a fault of a plan's text refuses it, and want of memory stops
abbrev pub plan_stop : PlanTextFault → Stop
plan_stop (plan.Line n) = Refused (refusal.PlanLine n)
plan_stop plan.Memory = Memory

-- a fault of a program refuses it, and want of memory stops
abbrev pub stop_of_lex : LexFault → Stop
stop_of_lex (lex.BadByte at) = Refused (refusal.Lex (lex.BadByte at))
stop_of_lex (lex.OpenComment at) = Refused (refusal.Lex (lex.OpenComment at))
stop_of_lex (lex.BigLiteral at) = Refused (refusal.Lex (lex.BigLiteral at))
stop_of_lex (lex.TooManyTokens at) = Refused (refusal.Lex (lex.TooManyTokens at))
stop_of_lex lex.Memory = Memory

abbrev pub stop_of_parse : ParseFault → Stop
stop_of_parse (parse.Forbidden at) = Refused (refusal.Parse (parse.Forbidden at))
stop_of_parse (parse.Unexpected at) = Refused (refusal.Parse (parse.Unexpected at))
stop_of_parse (parse.TooNested at) = Refused (refusal.Parse (parse.TooNested at))
stop_of_parse parse.Memory = Memory

abbrev pub stop_of_check : CheckFault → Stop
stop_of_check (check.Twice at) = Refused (refusal.Check (check.Twice at))
stop_of_check (check.UnknownName at) = Refused (refusal.Check (check.UnknownName at))
stop_of_check (check.ShapeOfName at) = Refused (refusal.Check (check.ShapeOfName at))
stop_of_check (check.BadIndex at) = Refused (refusal.Check (check.BadIndex at))
stop_of_check (check.TwoIndexes at) = Refused (refusal.Check (check.TwoIndexes at))
stop_of_check (check.IndexAssignedLater at) = Refused (refusal.Check (check.IndexAssignedLater at))
stop_of_check (check.HashArgs at) = Refused (refusal.Check (check.HashArgs at))
stop_of_check (check.TooLarge limit at) = Refused (refusal.Check (check.TooLarge limit at))
stop_of_check check.Memory = Memory

abbrev pub stop_of_compile : CompileFault → Stop
stop_of_compile (compile.Lex f) = Refused (refusal.Lex f)
stop_of_compile (compile.Parse f) = Refused (refusal.Parse f)
stop_of_compile (compile.Check f) = Refused (refusal.Check f)
stop_of_compile (compile.TooManyStatements n) = Refused (refusal.Statements n)
stop_of_compile (compile.Outside codelet) = Refused (refusal.Outside codelet)
stop_of_compile (compile.TooDeep chain) = Refused (refusal.Deep chain)
stop_of_compile (compile.Full codelet kind stage) = Refused (refusal.Full codelet kind stage)
stop_of_compile compile.Memory = Memory

-- a fault of a configuration refuses it, and want of memory stops
abbrev pub stop_of_read : ReadFault → Stop
stop_of_read (read.Line n) = Refused (refusal.ConfigLine n)
stop_of_read read.UnknownTarget = Refused refusal.UnknownTarget
stop_of_read read.Memory = Memory

abbrev pub stop_of_config : ConfigFault → Stop
stop_of_config (illegal.Refused kind stage atom) = Refused (refusal.Config kind stage atom)
stop_of_config illegal.Memory = Memory
