-- What `exec` finds on the text that `compile` put is what `run` finds.
use Rattle.std.proofs.Common.{◌≡◌, ℕ, ◌<◌, ◌≤◌, Bool, true, false, ◌&&◌, List, [], ◌∷◌, ◌++◌, length, Option, Some, None, Result, Ok, Err, refl, sym, ap, ◌∙◌, subst, arith}
use Rattle.std.specs.Bool.{if◌then◌else◌}
use Rattle.std.specs.Prelude.{⊤, option_map}
use Rattle.dom_words.specs.State.{Hash}
use Rattle.trace_text.specs.Trace.{IsTraceOf}
use Rattle.banzai_config.specs.declared.target.Target.{Target}
use Rattle.banzai_config.specs.Parts.{PartsForm}
use Rattle.banzai_config.specs.Targets.{shape_of}
use Rattle.banzai_config.proofs.TargetNames.{target_by_name}
use Rattle.config_text.specs.Fronts.{text_of}
use Rattle.dom_compile.specs.Answer.{IsCompileAnswer}
use Rattle.dom_compile.proofs.OneAnswer.{one_compile_answer}
use Rattle.probe_taps.specs.Taps.{TapForm}
use Rattle.dom_finding.specs.Command.{Command, command_of, compile, configs_named, exec, files_named, is_file, run}
use Rattle.dom_finding.specs.Configs.{ConfigForm, config_form}
use Rattle.dom_finding.specs.Finding.{Ask, Finding, Gives, IsFoundAfter, IsNext, IsTold, Job, Next, after_answer, ask, clocked, config_file, ends, found, over, program_file, reads, trace_file, written}
use Rattle.dom_finding.specs.Refusals.{refusal_status, refused_compile, refused_config, refused_trace}
use Rattle.dom_finding.specs.declared.refusals.Refusal.{Refusal}
use Rattle.dom_finding.specs.declared.refusals.Refusal.TheVariants as refusal
use Rattle.dom_finding.proofs.OneConfig.{one_config}
use Rattle.dom_shell.specs.Call.{IsAnswer, IsResult, bytes_of, no_command, some_command, status_of}
use Rattle.dom_shell.specs.ExecIsRun.{HoldsCompiled, compile_words, exec_words, run_words}
use Rattle.dom_shell.proofs.CompiledTexts.{compiled_config, compiled_short}

some_inside : {X : Type 0} (x y : X) → Some x ≡ Some y → x ≡ y
some_inside x y e = cc

same_ask : (a b : Ask) → ask a ≡ ask b → a ≡ b
same_ask a b e = cc

not_found : (f : Finding) (a : Ask) → found f ≡ ask a → ⊥
not_found f a e = absurd (cc)

-- Two commands go on alike after some texts.

module _ (Holds : List ℕ → List ℕ → Type 0) (C D : Command) (texts others : List (List ℕ)) (next : (later : List (List ℕ)) (n : Next) → IsNext C (later ++ texts) n → IsNext D (later ++ others) n) where
  found_alike : (later all : List (List ℕ)) → all ≡ later ++ texts → (f : Finding) → IsFoundAfter Holds C all f → IsFoundAfter Holds D (later ++ others) f
  found_alike later all is f (ends x) = ends (next later (found f) (subst (λ (ts : List (List ℕ)). IsNext C ts (found f)) is x))
  found_alike later all is f (over a t x h l e) = over a t (next later (ask a) (subst (λ (ts : List (List ℕ)). IsNext C ts (ask a)) is x)) h l e
  found_alike later all is f (reads a t x h l rest) =
      reads a t (next later (ask a) (subst (λ (ts : List (List ℕ)). IsNext C ts (ask a)) is x)) h l
      (found_alike (t ∷ later) (t ∷ all) (ap (λ (ts : List (List ℕ)). t ∷ ts) is) f rest)

-- A command that first wants a file which is told and within its limit goes on with its text.

module _ (files : List ℕ → Option (List ℕ)) (C : Command) (a : Ask) (text : List ℕ) (told : IsTold files a.name text) (small : length text ≤ a.most) where
  same_text : (b : Ask) (t : List ℕ) → b ≡ a → IsTold files b.name t → t ≡ text
  same_text b t e h = some_inside t text (sym (ap (λ (x : Ask). files x.name) (sym e) ∙ h) ∙ told)

  behind_first : ((n : Next) → IsNext C [] n → n ≡ ask a) → (f : Finding) → IsFoundAfter (IsTold files) C [] f → IsFoundAfter (IsTold files) C (text ∷ []) f
  behind_first first f (ends x) = absurd (not_found f a (first (found f) x))
  behind_first first f (over b t x h l e) =
      let b_is : b ≡ a = same_ask b a (first (ask b) x) in
      let t_is : t ≡ text = same_text b t b_is h in
      let p : a.most < length t = subst (λ (z : Ask). z.most < length t) b_is l in
      let q : a.most < length text = subst (λ (z : List ℕ). a.most < length z) t_is p in
      absurd (omega arith)
  behind_first first f (reads b t x h l rest) =
      let t_is : t ≡ text = same_text b t (same_ask b a (first (ask b) x)) h in
      subst (λ (z : List ℕ). IsFoundAfter (IsTold files) C (z ∷ []) f) t_is rest

  from_first : IsNext C [] (ask a) → (f : Finding) → IsFoundAfter (IsTold files) C (text ∷ []) f → IsFoundAfter (IsTold files) C [] f
  from_first first f rest = reads a text first told small rest

-- After the program's text `run` goes on as `exec` does after the text of its configuration.

ok_inside : {X F : Type 0} (x y : X) → ◌≡◌ {A = Result X F} (Ok x) (Ok y) → x ≡ y
ok_inside x y e = cc

module _ (t : Target) (program config trace text : List ℕ) (parts : PartsForm) (answer : IsCompileAnswer (shape_of t) text (Ok parts)) where
  abbrev runs : Command
  runs = run t (files_named program trace)

  abbrev execs : Command
  execs = exec (configs_named config trace)

  abbrev traced : PartsForm → List ℕ → Next → Type 0
  traced p trace_text n = Gives (IsTraceOf trace_text p.fields (length p.stages)) refused_trace (λ packets. found (Ok (clocked p packets))) n

  to_exec : (later : List (List ℕ)) (n : Next) → IsNext runs (later ++ text ∷ []) n → IsNext execs (later ++ text_of t parts ∷ []) n
  to_exec [] n (r, is, e) =
      let same : r ≡ Ok parts = one_compile_answer (shape_of t) text r (Ok parts) is answer in
      let go : PartsForm → Next = λ p. ask (trace_file trace) in
      (Ok (config_form t parts), compiled_config t text parts answer, e ∙ ap (after_answer refused_compile go) same)
  to_exec (u ∷ []) n (p, is, gives) =
      let same : p ≡ parts = ok_inside p parts (one_compile_answer (shape_of t) text (Ok p) (Ok parts) is answer) in
      (config_form t parts, compiled_config t text parts answer, subst (λ (x : PartsForm). traced x u n) same gives)
  to_exec (u ∷ v ∷ []) n x = absurd x
  to_exec (u ∷ v ∷ w ∷ later) n x = absurd x

  to_run : (later : List (List ℕ)) (n : Next) → IsNext execs (later ++ text_of t parts ∷ []) n → IsNext runs (later ++ text ∷ []) n
  to_run [] n (r, is, e) =
      let same : r ≡ Ok (config_form t parts) = one_config (text_of t parts) r (Ok (config_form t parts)) is (compiled_config t text parts answer) in
      let go : ConfigForm → Next = λ c. ask (trace_file trace) in
      (Ok parts, answer, e ∙ ap (after_answer refused_config go) same)
  to_run (u ∷ []) n (c, is, gives) =
      let same : c ≡ config_form t parts = ok_inside c (config_form t parts) (one_config (text_of t parts) (Ok c) (Ok (config_form t parts)) is (compiled_config t text parts answer)) in
      (parts, answer, subst (λ (x : ConfigForm). traced x.parts u n) same gives)
  to_run (u ∷ v ∷ []) n x = absurd x
  to_run (u ∷ v ∷ w ∷ later) n x = absurd x

  module _ (files : List ℕ → Option (List ℕ)) (told : IsTold files program text) (small : length text ≤ 65536) (held : IsTold files config (text_of t parts)) where
    short : length (text_of t parts) ≤ 1048576
    short = let l = compiled_short t text parts answer in omega arith

    pub exec_finds : (f : Finding) → IsFoundAfter (IsTold files) runs [] f → IsFoundAfter (IsTold files) execs [] f
    exec_finds f x =
        from_first files execs (config_file config) (text_of t parts) held short refl f
        (found_alike (IsTold files) runs execs (text ∷ []) (text_of t parts ∷ []) to_exec [] (text ∷ []) refl f
        (behind_first files runs (program_file program) text told small (λ n e. e) f x))

    pub run_finds : (f : Finding) → IsFoundAfter (IsTold files) execs [] f → IsFoundAfter (IsTold files) runs [] f
    run_finds f x =
        from_first files runs (program_file program) text told small refl f
        (found_alike (IsTold files) execs runs (text_of t parts ∷ []) (text ∷ []) to_run [] (text_of t parts ∷ []) refl f
        (behind_first files execs (config_file config) (text_of t parts) held short (λ n e. e) f x))

-- The words.

not_none : {X : Type 0} (x : X) → None ≡ Some x → ⊥
not_none x e = absurd (cc)

-- words of which neither spells a command, or both do, and what the first finds the second finds
abbrev GoesOver : (List ℕ → List ℕ → Type 0) → Option Command → Option Command → Type 0
GoesOver Holds None None = ⊤
GoesOver Holds None (Some d) = ⊥
GoesOver Holds (Some c) None = ⊥
GoesOver Holds (Some c) (Some d) = (f : Finding) → IsFoundAfter Holds c [] f → IsFoundAfter Holds d [] f

module _ (hash : Hash) (taps : List TapForm) (Holds : List ℕ → List ℕ → Type 0) (words others : List (List ℕ)) where
  answers_over : (c d : Option Command) → command_of words ≡ c → command_of others ≡ d → GoesOver Holds c d → (status : ℕ) (bytes : List ℕ) → IsAnswer hash taps Holds words status bytes → IsAnswer hash taps Holds others status bytes
  answers_over None None c_is d_is goes status bytes (no_command e s b) = no_command d_is s b
  answers_over None None c_is d_is goes status bytes (some_command c f e x s b) = absurd (not_none c (sym c_is ∙ e))
  answers_over None (Some d) c_is d_is goes status bytes x = absurd goes
  answers_over (Some c) None c_is d_is goes status bytes x = absurd goes
  answers_over (Some c) (Some d) c_is d_is goes status bytes (no_command e s b) = absurd (not_none c (sym e ∙ c_is))
  answers_over (Some c) (Some d) c_is d_is goes status bytes (some_command k f e x s b) =
      let same : k ≡ c = some_inside k c (sym e ∙ c_is) in
      some_command d f d_is (goes f (subst (λ (z : Command). IsFoundAfter Holds z [] f) same x)) s b

abbrev run_if : Bool → Bool → Target → List ℕ → List ℕ → Option Command
run_if p q t program trace = if p && q then Some (run t (files_named program trace)) else None

abbrev compile_if : Bool → Target → List ℕ → Option Command
compile_if p t program = if p then Some (compile t program) else None

run_command : (t : Target) (program trace : List ℕ) → command_of (run_words t program trace) ≡ run_if (is_file program) (is_file trace) t program trace
run_command t program trace =
    ap (λ (o : Option Target). if is_file program && is_file trace then option_map (λ u. run u (files_named program trace)) o else None) (target_by_name t)

compile_command : (t : Target) (program : List ℕ) → command_of (compile_words t program) ≡ compile_if (is_file program) t program
compile_command t program = ap (λ (o : Option Target). if is_file program then option_map (λ u. compile u program) o else None) (target_by_name t)

refused_some : (r : Refusal) → 0 ≡ refusal_status r → ⊥
refused_some refusal.ProgramLimit e = absurd (omega arith)
refused_some (refusal.Lex fault) e = absurd (omega arith)
refused_some (refusal.Parse fault) e = absurd (omega arith)
refused_some (refusal.Check fault) e = absurd (omega arith)
refused_some (refusal.Statements n) e = absurd (omega arith)
refused_some (refusal.Outside codelet) e = absurd (omega arith)
refused_some (refusal.Deep chain) e = absurd (omega arith)
refused_some (refusal.Full codelet kind stage) e = absurd (omega arith)
refused_some refusal.ConfigLimit e = absurd (omega arith)
refused_some (refusal.ConfigLine n) e = absurd (omega arith)
refused_some refusal.UnknownTarget e = absurd (omega arith)
refused_some (refusal.Config kind stage atom) e = absurd (omega arith)
refused_some (refusal.Stage depth) e = absurd (omega arith)
refused_some refusal.TraceLimit e = absurd (omega arith)
refused_some (refusal.Trace fault) e = absurd (omega arith)
refused_some refusal.Rank e = absurd (omega arith)
refused_some refusal.EventsLimit e = absurd (omega arith)
refused_some (refusal.Events line) e = absurd (omega arith)
refused_some refusal.PlanLimit e = absurd (omega arith)
refused_some (refusal.PlanLine line) e = absurd (omega arith)
refused_some (refusal.PlanEarly codelet used) e = absurd (omega arith)
refused_some (refusal.PlanWide stage kind) e = absurd (omega arith)

-- what `compile` has found, where it has status 0: the program's text, its parts, and their text
record Put (hash : Hash) (taps : List TapForm) (files : List ℕ → Option (List ℕ)) (t : Target) (program bytes : List ℕ) : Type 0 where
  named : is_file program ≡ true
  text : List ℕ
  told : IsTold files program text
  small : length text ≤ 65536
  parts : PartsForm
  answer : IsCompileAnswer (shape_of t) text (Ok parts)
  put : bytes ≡ text_of t parts

module _ (hash : Hash) (taps : List TapForm) (files : List ℕ → Option (List ℕ)) (t : Target) (program bytes : List ℕ) (named : is_file program ≡ true) where
  put_of_text : (text : List ℕ) → IsTold files program text → length text ≤ 65536 → (f : Finding) → IsFoundAfter (IsTold files) (compile t program) (text ∷ []) f → 0 ≡ status_of f → bytes ≡ bytes_of hash taps f
      → Put hash taps files t program bytes
  put_of_text text told small (Err r) x zero b = absurd (refused_some r zero)
  put_of_text text told small (Ok job) (over a u (Ok parts, is, e) h l d) zero b = absurd (not_found (Ok (written (text_of t parts))) a (sym e))
  put_of_text text told small (Ok job) (over a u (Err r, is, e) h l d) zero b = absurd (not_found (Err (refused_compile r)) a (sym e))
  put_of_text text told small (Ok job) (reads a u (Ok parts, is, e) h l rest) zero b = absurd (not_found (Ok (written (text_of t parts))) a (sym e))
  put_of_text text told small (Ok job) (reads a u (Err r, is, e) h l rest) zero b = absurd (not_found (Err (refused_compile r)) a (sym e))
  put_of_text text told small (Ok job) (ends (Err r, is, e)) zero b = absurd (let d : ◌≡◌ {A = Next} (found (Ok job)) (found (Err (refused_compile r))) = e in cc)
  put_of_text text told small (Ok job) (ends (Ok parts, is, e)) zero b =
      let d : ◌≡◌ {A = Next} (found (Ok job)) (found (Ok (written (text_of t parts)))) = e in
      let same : job ≡ written (text_of t parts) = cc in
      record { named = named; text = text; told = told; small = small; parts = parts; answer = is; put = b ∙ ap (λ (j : Job). bytes_of hash taps (Ok j)) same }

  put_of_found : (f : Finding) → IsFoundAfter (IsTold files) (compile t program) [] f → 0 ≡ status_of f → bytes ≡ bytes_of hash taps f → Put hash taps files t program bytes
  put_of_found f (ends x) zero b = absurd (not_found f (program_file program) x)
  put_of_found f (over a u x h l e) zero b = absurd (refused_some a.over (zero ∙ ap status_of e))
  put_of_found f (reads a u x h l rest) zero b =
      let a_is : a ≡ program_file program = same_ask a (program_file program) x in
      put_of_text u (subst (λ (z : Ask). IsTold files z.name u) a_is h) (subst (λ (z : Ask). length u ≤ z.most) a_is l) f rest zero b

put_of : (hash : Hash) (taps : List TapForm) (files : List ℕ → Option (List ℕ)) (t : Target) (program bytes : List ℕ) (p : Bool) → is_file program ≡ p → IsResult hash taps (compile_words t program) files 0 bytes → Put hash taps files t program bytes
put_of hash taps files t program bytes p is (no_command e s b) = absurd (omega arith)
put_of hash taps files t program bytes false is (some_command c f e x s b) =
    absurd (not_none c (sym (compile_command t program ∙ ap (λ (q : Bool). compile_if q t program) is) ∙ e))
put_of hash taps files t program bytes true is (some_command c f e x s b) =
    let same : c ≡ compile t program = some_inside c (compile t program) (sym e ∙ compile_command t program ∙ ap (λ (q : Bool). compile_if q t program) is) in
    put_of_found hash taps files t program bytes is f (subst (λ (z : Command). IsFoundAfter (IsTold files) z [] f) same x) s b

module _ (hash : Hash) (taps : List TapForm) (files : List ℕ → Option (List ℕ)) (t : Target) (program config trace : List ℕ) (holds : HoldsCompiled hash files t program config) where
  abbrev compiled : Put hash holds.taps files t program holds.text
  compiled = put_of hash holds.taps files t program holds.text (is_file program) refl holds.put

  held_parts : IsTold files config (text_of t compiled.parts)
  held_parts = holds.held ∙ ap Some compiled.put

  run_is : (q : Bool) → is_file trace ≡ q → command_of (run_words t program trace) ≡ run_if true q t program trace
  run_is q is = run_command t program trace ∙ ap (λ (p : Bool). run_if p (is_file trace) t program trace) compiled.named ∙ ap (λ (x : Bool). run_if true x t program trace) is

  exec_is : (q : Bool) → is_file trace ≡ q → command_of (exec_words config trace) ≡ (if q then Some (exec (configs_named config trace)) else None)
  exec_is q is =
      ap (λ (p : Bool). if p && is_file trace then Some (exec (configs_named config trace)) else None) holds.named
      ∙ ap (λ (x : Bool). if x then Some (exec (configs_named config trace)) else None) is

  pub exec_answers : (status : ℕ) (bytes : List ℕ) → IsResult hash taps (run_words t program trace) files status bytes → IsResult hash taps (exec_words config trace) files status bytes
  exec_answers = by_trace (is_file trace) refl
    where
      by_trace : (q : Bool) → is_file trace ≡ q → (status : ℕ) (bytes : List ℕ) → IsResult hash taps (run_words t program trace) files status bytes → IsResult hash taps (exec_words config trace) files status bytes
      by_trace true is = answers_over hash taps (IsTold files) (run_words t program trace) (exec_words config trace) (Some (run t (files_named program trace))) (Some (exec (configs_named config trace)))
          (run_is true is) (exec_is true is) (exec_finds t program config trace compiled.text compiled.parts compiled.answer files compiled.told compiled.small held_parts)
      by_trace false is = answers_over hash taps (IsTold files) (run_words t program trace) (exec_words config trace) None None (run_is false is) (exec_is false is) tt

  pub run_answers : (status : ℕ) (bytes : List ℕ) → IsResult hash taps (exec_words config trace) files status bytes → IsResult hash taps (run_words t program trace) files status bytes
  run_answers = by_trace (is_file trace) refl
    where
      by_trace : (q : Bool) → is_file trace ≡ q → (status : ℕ) (bytes : List ℕ) → IsResult hash taps (exec_words config trace) files status bytes → IsResult hash taps (run_words t program trace) files status bytes
      by_trace true is = answers_over hash taps (IsTold files) (exec_words config trace) (run_words t program trace) (Some (exec (configs_named config trace))) (Some (run t (files_named program trace)))
          (exec_is true is) (run_is true is) (run_finds t program config trace compiled.text compiled.parts compiled.answer files compiled.told compiled.small held_parts)
      by_trace false is = answers_over hash taps (IsTold files) (exec_words config trace) (run_words t program trace) None None (exec_is false is) (run_is false is) tt
