-- Why a fault stops a command.
use Rattle.std.proofs.Common.{◌≡◌, ℕ, ◌≤◌, Bool, List, ◌∷◌, length, refl, sym, ◌∙◌, subst, arith, Option, IfSome, Result, Err}
use Rattle.dom_io.specs.Causes.{Rose}
use Rattle.dom_lexer.specs.declared.token.Token.{Token}
use Rattle.dom_lexer.specs.declared.token.LexFault.{LexFault}
use Rattle.dom_lexer.specs.declared.token.LexFault.TheVariants as lex
use Rattle.dom_lexer.specs.Answer.{IsAnsweredExactly}
use Rattle.dom_parser.specs.declared.faults.ParseFault.{ParseFault}
use Rattle.dom_parser.specs.declared.faults.ParseFault.TheVariants as parse
use Rattle.dom_parser.specs.Faults.{IsFirstFault, SpellsNone}
use Rattle.dom_ast.specs.Form.{ProgramForm}
use Rattle.dom_checks.specs.declared.faults.CheckFault.{CheckFault}
use Rattle.dom_checks.specs.declared.faults.CheckFault.TheVariants as check
use Rattle.dom_checks.specs.Verdict.{IsViolation}
use Rattle.trace_text.specs.Events.{IsEventsOf, line_in}
use Rattle.trace_text.specs.declared.events.EventsFault.{EventsFault}
use Rattle.trace_text.specs.declared.events.EventsFault.TheVariants as bad
use Rattle.trace_text.specs.Trace.{IsTraceOf, refusal_of}
use Rattle.trace_text.specs.Trace as trace
use Rattle.trace_text.specs.declared.trace.TraceFault.{TraceFault}
use Rattle.trace_text.specs.declared.trace.TraceFault.TheVariants as fault
use Rattle.dom_compile.specs.Programs.{HasProgram, HasTokens}
use Rattle.dom_compile.specs.Verdict.{IsProgram, of_bytes, of_names, of_tokens}
use Rattle.banzai_config.specs.Legal.{Shape}
use Rattle.atom_traits.specs.Form.{TreesForm}
use Rattle.dom_compile.specs.Answer.{IsCompileAnswer, IsCompileFault, IsFrontAnswer, IsFrontFault, full, ill_formed, outside, too_deep, too_many}
use Rattle.dom_compile.specs.declared.faults.CompileFault.{CompileFault}
use Rattle.dom_compile.specs.declared.faults.CompileFault.TheVariants as compile
use Rattle.banzai_config.specs.Checked.{IsFaultOf}
use Rattle.banzai_config.specs.Parts.{PartsForm}
use Rattle.banzai_config.specs.Targets.{shape_of}
use Rattle.banzai_config.specs.declared.fault.ConfigFault.{ConfigFault}
use Rattle.banzai_config.specs.declared.fault.ConfigFault.TheVariants as broken
use Rattle.banzai_config.specs.declared.target.Target.{Target}
use Rattle.config_text.specs.Fronts.{TextOf}
use Rattle.config_text.specs.ReadFaults.{IsReadFault}
use Rattle.config_text.specs.declared.fault.ReadFault.{ReadFault}
use Rattle.config_text.specs.declared.fault.ReadFault.TheVariants as read
use Rattle.codelets.specs.declared.codelet.Codelet.{Codelet}
use Rattle.plan_check.specs.PlanText.{IsPlanAnswer, IsReadFault as IsPlanFault}
use Rattle.plan_check.specs.declared.fault.PlanTextFault.{PlanTextFault}
use Rattle.plan_check.specs.declared.fault.PlanTextFault.TheVariants as wrong
use Rattle.dom_finding.specs.Command.{Command}
use Rattle.dom_finding.specs.Configs.{IsConfig, bad_line, illegal, unknown_target}
use Rattle.dom_finding.specs.Finding.{Ask, IsFoundAfter, IsNext, MayHold, ask, ends, found, here, later, over, reads}
use Rattle.dom_finding.specs.Refusals.{refused_compile, refused_config, refused_events, refused_plan, refused_program, refused_trace}
use Rattle.dom_finding.specs.Stops.{AreKept, FileStop, StopAfter, TextStop, events_stop, plan_stop, stop_of_check, stop_of_compile, stop_of_config, stop_of_lex, stop_of_parse, stop_of_read, trace_stop}
use Rattle.dom_finding.specs.declared.reading.Stop.{Stop}
use Rattle.dom_finding.specs.declared.reading.Stop.TheVariants.{Refused, Unread, Memory}
use Rattle.dom_finding.specs.declared.refusals.Refusal.{Refusal}

-- the stop of a program
abbrev pub ProgramStop : List ℕ → Stop → Type 0
ProgramStop text stop = TextStop (IsProgram text) refused_program stop

-- the first fault of the bytes
lex_first : {T : Type 0} (text : List ℕ) (f : LexFault) (result : Result T LexFault) → result ≡ Err f → length text ≤ 65536
    → ((at : ℕ) → IsAnsweredExactly (lex.BadByte at) text result) → ((at : ℕ) → IsAnsweredExactly (lex.OpenComment at) text result)
    → ((at : ℕ) → IsAnsweredExactly (lex.BigLiteral at) text result) → ((at : ℕ) → IsAnsweredExactly (lex.TooManyTokens at) text result)
    → ProgramStop text (stop_of_lex f)
lex_first text (lex.BadByte at) result e small a b c d = (of_bytes (lex.BadByte at), record { small = small; first = (a at).0 e }, refl)
lex_first text (lex.OpenComment at) result e small a b c d = (of_bytes (lex.OpenComment at), record { small = small; first = (b at).0 e }, refl)
lex_first text (lex.BigLiteral at) result e small a b c d = (of_bytes (lex.BigLiteral at), record { small = small; first = (c at).0 e }, refl)
lex_first text (lex.TooManyTokens at) result e small a b c d = (of_bytes (lex.TooManyTokens at), record { small = small; first = (d at).0 e }, refl)
lex_first text lex.Memory result e small a b c d = tt

pub lex_stops : {T : Type 0} (text : List ℕ) (f : LexFault) (result : Result T LexFault) (stop : Stop) → stop ≡ stop_of_lex f → result ≡ Err f → length text ≤ 65536
    → ((at : ℕ) → IsAnsweredExactly (lex.BadByte at) text result) → ((at : ℕ) → IsAnsweredExactly (lex.OpenComment at) text result)
    → ((at : ℕ) → IsAnsweredExactly (lex.BigLiteral at) text result) → ((at : ℕ) → IsAnsweredExactly (lex.TooManyTokens at) text result)
    → ProgramStop text stop
lex_stops text f result stop is e small a b c d = subst (λ (s : Stop). ProgramStop text s) (sym is) (lex_first text f result e small a b c d)

-- the first fault of the tokens
parse_first : (text : List ℕ) (tokens : List Token) (f : ParseFault) → HasTokens text tokens → IsFirstFault tokens (length text) f → SpellsNone tokens f → ProgramStop text (stop_of_parse f)
parse_first text tokens (parse.Forbidden at) has first none = (of_tokens (parse.Forbidden at), record { tokens = tokens; has_tokens = has; first = first; told = λ e. cc; none = none }, refl)
parse_first text tokens (parse.Unexpected at) has first none = (of_tokens (parse.Unexpected at), record { tokens = tokens; has_tokens = has; first = first; told = λ e. cc; none = none }, refl)
parse_first text tokens (parse.TooNested at) has first none = (of_tokens (parse.TooNested at), record { tokens = tokens; has_tokens = has; first = first; told = λ e. cc; none = none }, refl)
parse_first text tokens parse.Memory has first none = tt

pub parse_stops : (text : List ℕ) (tokens : List Token) (end : ℕ) (f : ParseFault) (stop : Stop) → stop ≡ stop_of_parse f → HasTokens text tokens → end ≡ length text
    → IsFirstFault tokens end f → SpellsNone tokens f → ProgramStop text stop
parse_stops text tokens end f stop is has at_end first none =
    subst (λ (s : Stop). ProgramStop text s) (sym is) (parse_first text tokens f has (subst (λ (n : ℕ). IsFirstFault tokens n f) at_end first) none)

-- the first check that does not hold
check_first : (text : List ℕ) (p : ProgramForm) (f : CheckFault) → HasProgram text p → IsViolation p f → ProgramStop text (stop_of_check f)
check_first text p (check.Twice at) has first = (of_names (check.Twice at), record { program = p; has_program = has; first = first }, refl)
check_first text p (check.UnknownName at) has first = (of_names (check.UnknownName at), record { program = p; has_program = has; first = first }, refl)
check_first text p (check.ShapeOfName at) has first = (of_names (check.ShapeOfName at), record { program = p; has_program = has; first = first }, refl)
check_first text p (check.BadIndex at) has first = (of_names (check.BadIndex at), record { program = p; has_program = has; first = first }, refl)
check_first text p (check.TwoIndexes at) has first = (of_names (check.TwoIndexes at), record { program = p; has_program = has; first = first }, refl)
check_first text p (check.IndexAssignedLater at) has first = (of_names (check.IndexAssignedLater at), record { program = p; has_program = has; first = first }, refl)
check_first text p (check.HashArgs at) has first = (of_names (check.HashArgs at), record { program = p; has_program = has; first = first }, refl)
check_first text p (check.TooLarge limit at) has first = (of_names (check.TooLarge limit at), record { program = p; has_program = has; first = first }, refl)
check_first text p check.Memory has first = tt

pub check_stops : (text : List ℕ) (p : ProgramForm) (f : CheckFault) (stop : Stop) → stop ≡ stop_of_check f → HasProgram text p → IsViolation p f → ProgramStop text stop
check_stops text p f stop is has first = subst (λ (s : Stop). ProgramStop text s) (sym is) (check_first text p f has first)

-- the first refusal of the compiler
abbrev pub StopsCompile : Shape → List ℕ → Stop → Type 0
StopsCompile s text stop = TextStop (IsCompileAnswer s text) refused_compile stop

compile_first : (s : Shape) (text : List ℕ) (f : CompileFault) → IsCompileFault s text f → StopsCompile s text (stop_of_compile f)
compile_first s text (compile.Lex f) first = (ill_formed (of_bytes f), first, refl)
compile_first s text (compile.Parse f) first = (ill_formed (of_tokens f), first, refl)
compile_first s text (compile.Check f) first = (ill_formed (of_names f), first, refl)
compile_first s text (compile.TooManyStatements n) first = (too_many n, first, refl)
compile_first s text (compile.Outside codelet) first = (outside codelet, first, refl)
compile_first s text (compile.TooDeep chain) first = (too_deep chain, first, refl)
compile_first s text (compile.Full codelet kind stage) first = (full codelet kind stage, first, refl)
compile_first s text compile.Memory first = tt

pub compile_stops : (s : Shape) (text : List ℕ) (f : CompileFault) (stop : Stop) → stop ≡ stop_of_compile f → IsCompileFault s text f → StopsCompile s text stop
compile_stops s text f stop is first = subst (λ (x : Stop). StopsCompile s text x) (sym is) (compile_first s text f first)

-- what a configuration is refused for
abbrev pub StopsConfig : List ℕ → Stop → Type 0
StopsConfig text stop = TextStop (IsConfig text) refused_config stop

read_first : (text : List ℕ) (f : ReadFault) → IsReadFault text f → StopsConfig text (stop_of_read f)
read_first text (read.Line n) is = (bad_line n, is, refl)
read_first text read.UnknownTarget is = (unknown_target, is, refl)
read_first text read.Memory is = tt

pub read_stops : (text : List ℕ) (f : ReadFault) (stop : Stop) → stop ≡ stop_of_read f → IsReadFault text f → StopsConfig text stop
read_stops text f stop is first = subst (λ (x : Stop). StopsConfig text x) (sym is) (read_first text f first)

rule_first : (t : Target) (p : PartsForm) (text : List ℕ) (f : ConfigFault) → TextOf t p text → IsFaultOf (shape_of t) p f → StopsConfig text (stop_of_config f)
rule_first t p text (broken.Refused kind stage atom) spelled is =
    (illegal (record { kind = kind; stage = stage; atom = atom }), record { target = t; parts = p; spelled = spelled; broken = is }, refl)
rule_first t p text broken.Memory spelled is = tt

pub rule_stops : (t : Target) (p : PartsForm) (text : List ℕ) (f : ConfigFault) (stop : Stop) → stop ≡ stop_of_config f → TextOf t p text → IsFaultOf (shape_of t) p f → StopsConfig text stop
rule_stops t p text f stop is spelled first = subst (λ (x : Stop). StopsConfig text x) (sym is) (rule_first t p text f spelled first)

-- the first refusal of a trace
abbrev pub StopsTrace : List ℕ → List (List ℕ) → ℕ → Stop → Type 0
StopsTrace text fields depth stop = TextStop (IsTraceOf text fields depth) refused_trace stop

trace_first : (text : List ℕ) (fields : List (List ℕ)) (depth : ℕ) (f : TraceFault)
    → IfSome (refusal_of f) (λ r. IsTraceOf text fields depth (Err r)) → StopsTrace text fields depth (trace_stop f)
trace_first text fields depth fault.NoHeader says = (trace.no_header, says, refl)
trace_first text fields depth (fault.UnknownColumn c) says = (trace.unknown_column c, says, refl)
trace_first text fields depth (fault.ColumnTwice c) says = (trace.column_twice c, says, refl)
trace_first text fields depth (fault.RowLength r) says = (trace.row_length r, says, refl)
trace_first text fields depth (fault.BadValue r c) says = (trace.bad_value r c, says, refl)
trace_first text fields depth (fault.TooManyCycles n) says = (trace.too_many_cycles n, says, refl)
trace_first text fields depth fault.Memory says = tt

pub trace_stops : (text : List ℕ) (fields : List (List ℕ)) (depth : ℕ) (f : TraceFault) (stop : Stop) → stop ≡ trace_stop f
    → IfSome (refusal_of f) (λ r. IsTraceOf text fields depth (Err r)) → StopsTrace text fields depth stop
trace_stops text fields depth f stop is says = subst (λ (s : Stop). StopsTrace text fields depth s) (sym is) (trace_first text fields depth f says)

-- the first refusal of events
abbrev pub StopsEvents : List ℕ → ℕ → Stop → Type 0
StopsEvents text depth stop = TextStop (IsEventsOf text depth) refused_events stop

events_first : (text : List ℕ) (depth : ℕ) (f : EventsFault) → IfSome (line_in f) (λ n. IsEventsOf text depth (Err n)) → StopsEvents text depth (events_stop f)
events_first text depth (bad.Line n) says = (n, says, refl)
events_first text depth bad.Memory says = tt

pub events_stops : (text : List ℕ) (depth : ℕ) (f : EventsFault) (stop : Stop) → stop ≡ events_stop f → IfSome (line_in f) (λ n. IsEventsOf text depth (Err n)) → StopsEvents text depth stop
events_stops text depth f stop is says = subst (λ (s : Stop). StopsEvents text depth s) (sym is) (events_first text depth f says)

-- the first refusal of a plan's text
abbrev pub StopsPlan : ℕ → List Codelet → List ℕ → Stop → Type 0
StopsPlan depth cs text stop = TextStop (IsPlanAnswer depth cs text) refused_plan stop

plan_first : (depth : ℕ) (cs : List Codelet) (text : List ℕ) (f : PlanTextFault) → IsPlanFault depth cs text f → StopsPlan depth cs text (plan_stop f)
plan_first depth cs text (wrong.Line n) says = (n, says, refl)
plan_first depth cs text wrong.Memory says = tt

pub plan_stops : (depth : ℕ) (cs : List Codelet) (text : List ℕ) (f : PlanTextFault) (stop : Stop) → stop ≡ plan_stop f → IsPlanFault depth cs text f → StopsPlan depth cs text stop
plan_stops depth cs text f stop is says = subst (λ (s : Stop). StopsPlan depth cs text s) (sym is) (plan_first depth cs text f says)

-- the stop of codelets
abbrev pub StopsFront : (TreesForm → Bool) → Bool → List ℕ → Stop → Type 0
StopsFront fits multiplies text stop = TextStop (IsFrontAnswer fits multiplies text) refused_compile stop

front_first : (fits : TreesForm → Bool) (multiplies : Bool) (text : List ℕ) (f : CompileFault) → IsFrontFault fits multiplies text f → StopsFront fits multiplies text (stop_of_compile f)
front_first fits multiplies text (compile.Lex f) says = (ill_formed (of_bytes f), says, refl)
front_first fits multiplies text (compile.Parse f) says = (ill_formed (of_tokens f), says, refl)
front_first fits multiplies text (compile.Check f) says = (ill_formed (of_names f), says, refl)
front_first fits multiplies text (compile.TooManyStatements n) says = (too_many n, says, refl)
front_first fits multiplies text (compile.Outside n) says = (outside n, says, refl)
front_first fits multiplies text (compile.TooDeep chain) says = absurd says
front_first fits multiplies text (compile.Full n kind stage) says = absurd says
front_first fits multiplies text compile.Memory says = tt

pub front_stops : (fits : TreesForm → Bool) (multiplies : Bool) (text : List ℕ) (f : CompileFault) (stop : Stop) → stop ≡ stop_of_compile f → IsFrontFault fits multiplies text f → StopsFront fits multiplies text stop
front_stops fits multiplies text f stop is says = subst (λ (s : Stop). StopsFront fits multiplies text s) (sym is) (front_first fits multiplies text f says)

-- A stop after some texts.

-- what a file stopped, where between the reads nothing moved
pub moved : (files mid : List ℕ → Option (List ℕ)) (before then now : List ℕ → ℕ) (a : Ask) (stop : Stop) → ((name : List ℕ) → mid name ≡ files name) → AreKept before then
    → FileStop mid then now a stop → FileStop files before now a stop
moved files mid before then now a (Refused r) same kept is =
    ((is.0.0, subst (λ (o : Option (List ℕ)). IfSome o (λ told. told ≡ is.0.0)) (same a.name) is.0.1, is.0.2), is.1, λ name. is.2 name ∙ kept name)
moved files mid before then now a Unread same kept is =
    (λ name. let k = kept name in let l = is.0 name in omega arith, subst (λ (n : ℕ). Rose n (now a.name)) (kept a.name) is.1)
moved files mid before then now a Memory same kept is = λ name. is name ∙ kept name

module _ (command : Command) (texts : List (List ℕ)) (files : List ℕ → Option (List ℕ)) (before now : List ℕ → ℕ) where
  -- the next file stops the command
  pub file_stops : (a : Ask) (stop : Stop) → IsNext command texts (ask a) → FileStop files before now a stop → StopAfter command texts files before now stop
  file_stops a (Refused r) next is =
      (subst (λ (x : Refusal). IsFoundAfter (MayHold files) command texts (Err x)) (sym is.1) (over a is.0.0 next is.0.1 is.0.2 refl), is.2)
  file_stops a Unread next is = (here a next is.1, is.0)
  file_stops a Memory next is = is

  -- the text that was read last stops it
  pub text_stops : {X F : Type 0} (Is : Result X F → Type 0) (refuse : F → Refusal) (stop : Stop) → AreKept before now
      → ((fault : F) → Is (Err fault) → IsNext command texts (found (Err (refuse fault)))) → TextStop Is refuse stop → StopAfter command texts files before now stop
  text_stops Is refuse (Refused r) kept next is =
      (subst (λ (x : Refusal). IsFoundAfter (MayHold files) command texts (Err x)) (sym is.2) (ends (next is.0 is.1)), kept)
  text_stops Is refuse Unread kept next is = absurd is
  text_stops Is refuse Memory kept next is = kept

  -- a stop behind the next text is a stop before it
  pub read_on : (a : Ask) (text : List ℕ) (stop : Stop) → IsNext command texts (ask a) → MayHold files a.name text → length text ≤ a.most
      → StopAfter command (text ∷ texts) files before now stop → StopAfter command texts files before now stop
  read_on a text (Refused r) next holds few is = (reads a text next holds few is.0, is.1)
  read_on a text Unread next holds few is = (later a text next holds few is.0, is.1)
  read_on a text Memory next holds few is = is
