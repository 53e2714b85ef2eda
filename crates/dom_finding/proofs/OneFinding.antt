-- There is one finding: after some texts one thing comes next.
use Rattle.codelets.specs.declared.answer.Codelets.{Codelets}
use Rattle.codelets.specs.declared.codelet.Codelet.{Codelet}
use Rattle.stage_plan.specs.declared.place.Place.{Place}
use Rattle.atom_match.specs.Atoms.{AtomForm}
use Rattle.compile_law.specs.Compiled.{AreAtomsOf, compiled_parts}
use Rattle.container_plan.specs.Shared.{shared}
use Rattle.plan_check.specs.HandFaults.{hand_fault}
use Rattle.plan_check.specs.PlanText.{IsPlanAnswer}
use Rattle.plan_check.specs.Placed.{placed}
use Rattle.plan_check.proofs.OnePlan.{one_plan}
use Rattle.dom_compile.proofs.OneFront.{one_front, one_parts}
use Rattle.std.proofs.Common.{◌≡◌, ℕ, ◌<◌, ◌≤◌, List, [], ◌∷◌, length, sym, ap, ◌∙◌, refl, subst, Option, IfSome, Result, Ok, Err, arith}
use Rattle.dom_io.specs.Causes.{Rose}
use Rattle.trace_text.specs.Trace.{IsTraceOf}
use Rattle.trace_text.specs.Events.{IsEventsOf}
use Rattle.trace_text.specs.declared.events.Event.{Event}
use Rattle.trace_text.proofs.EventLines.{one_reading}
use Rattle.trace_text.proofs.Once.{one_trace}
use Rattle.dom_ast.specs.Resolved.{CheckedForm}
use Rattle.dom_compile.specs.Verdict.{IsProgram}
use Rattle.dom_compile.proofs.OneProgram.{one_program}
use Rattle.banzai_config.specs.Parts.{PartsForm}
use Rattle.banzai_config.specs.Targets.{depth_of, shape_of}
use Rattle.banzai_config.specs.declared.target.Target.{Target}
use Rattle.banzai_config.specs.declared.target.Geometry.{Geometry}
use Rattle.banzai_config.specs.declared.target.Geometry.TheVariants.{Large, Medium, Small}
use Rattle.banzai_config.proofs.Staged.{legal_depth}
use Rattle.config_text.specs.Fronts.{text_of}
use Rattle.dom_compile.specs.Answer.{IsCompileAnswer, IsFitted}
use Rattle.dom_compile.proofs.OneAnswer.{one_compile_answer}
use Rattle.dom_finding.specs.Command.{Command, ConfigNames, codelets, compile, elastic, exec, planned, probe, run, schedule, selfrun, serial, watch, upgrade}
use Rattle.dom_finding.specs.Configs.{ConfigForm, IsConfig}
use Rattle.dom_finding.specs.Finding.{Ask, Finding, Gives, IsFoundAfter, IsFrontFor, IsNext, IsNextInQueues, IsNextOver, IsTold, IsUnreadAfter, Job, MayHold, Next, Packets, after_answer, ask, by_plan, clocked, drawn, ends, events_file, found, here, in_turn, later, over, plan_file, queued, ranked, reads, tapped, trace_behind, trace_file, trace_ranked, unless_faulty, watched, written, upgraded_text}
use Rattle.dom_finding.specs.Listing.{codelets_text}
use Rattle.dom_finding.specs.OwnProgram.{own_program}
use Rattle.dom_finding.specs.Refusals.{refused_compile, refused_config, refused_events, refused_plan, refused_program, refused_trace}
use Rattle.dom_finding.proofs.OneConfig.{one_config}
use Rattle.dom_finding.specs.declared.refusals.Refusal.{Refusal}

-- What comes next, comes once, where a text is one thing.

gives_once : {X F : Type 0} (Is : Result X F → Type 0) (refuse : F → Refusal) (go : X → Next) (m n : Next) → ((r s : Result X F) → Is r → Is s → r ≡ s)
    → Gives Is refuse go m → Gives Is refuse go n → m ≡ n
gives_once Is refuse go m n once a b = a.2 ∙ ap (after_answer refuse go) (once a.0 b.0 a.1 b.1) ∙ sym b.2

over_once : (names : ConfigNames) (go : PartsForm → Next) (job : PartsForm → Packets → Job) (texts : List (List ℕ)) (m n : Next) → IsNextOver names go job texts m → IsNextOver names go job texts n → m ≡ n
over_once names go job [] m n a b = a ∙ sym b
over_once names go job (config ∷ []) m n a b = gives_once (IsConfig config) refused_config (λ c. go c.parts) m n (one_config config) a b
over_once names go job (trace ∷ config ∷ []) m n a b =
    let e = one_config config (Ok a.0) (Ok b.0) a.1 b.1 in
    let same : b.0 ≡ a.0 = cc in
    let c : ConfigForm = a.0 in
    gives_once (IsTraceOf trace c.parts.fields (length c.parts.stages)) refused_trace (λ packets. found (Ok (job c.parts packets))) m n (one_trace trace c.parts.fields (length c.parts.stages)) a.2
    (subst (λ (x : ConfigForm). Gives (IsTraceOf trace x.parts.fields (length x.parts.stages)) refused_trace (λ packets. found (Ok (job x.parts packets))) n) same b.2)
over_once names go job (third ∷ trace ∷ config ∷ more) m n a b = absurd a

-- a configuration has few stages
few_stages : (g : Geometry) → depth_of g ≤ 65535
few_stages Small = omega arith
few_stages Medium = omega arith
few_stages Large = omega arith

pub few_deep : (text : List ℕ) (c : ConfigForm) → IsConfig text (Ok c) → length c.parts.stages ≤ 65535
few_deep text c is = let d = legal_depth (shape_of c.target) c.parts is.1 in let f = few_stages c.target.geometry in omega arith

queues_once : (names : ConfigNames) (events : List ℕ) (texts : List (List ℕ)) (m n : Next) → IsNextInQueues names events texts m → IsNextInQueues names events texts n → m ≡ n
queues_once names events [] m n a b = a ∙ sym b
queues_once names events (config ∷ []) m n a b = gives_once (IsConfig config) refused_config (λ c. ask (trace_file names.trace)) m n (one_config config) a b
queues_once names events (trace ∷ config ∷ []) m n a b =
    let e = one_config config (Ok a.0) (Ok b.0) a.1 b.1 in
    let same : b.0 ≡ a.0 = cc in
    let c : ConfigForm = a.0 in
    gives_once (IsTraceOf trace c.parts.fields 0) refused_trace (λ packets. ask (events_file events)) m n (one_trace trace c.parts.fields 0) a.2
    (subst (λ (x : ConfigForm). Gives (IsTraceOf trace x.parts.fields 0) refused_trace (λ packets. ask (events_file events)) n) same b.2)
queues_once names events (lines ∷ trace ∷ config ∷ []) m n a b =
    let e = one_config config (Ok a.0) (Ok b.0) a.1 b.1 in
    let same : b.0 ≡ a.0 = cc in
    let c : ConfigForm = a.0 in
    let t = one_trace trace c.parts.fields 0 (Ok a.2.0) (Ok b.2.0) a.2.1 (subst (λ (x : ConfigForm). IsTraceOf trace x.parts.fields 0 (Ok b.2.0)) same b.2.1) in
    let alike : b.2.0 ≡ a.2.0 = cc in
    let packets : Packets = a.2.0 in
    gives_once (IsEventsOf lines (length c.parts.stages)) refused_events (λ (es : List Event). found (Ok (queued c.parts packets es))) m n (one_reading (length c.parts.stages) (few_deep config c a.1) lines) a.2.2
    (subst (λ (p : Packets). Gives (IsEventsOf lines (length c.parts.stages)) refused_events (λ (es : List Event). found (Ok (queued c.parts p es))) n) alike
    (subst (λ (x : ConfigForm). Gives (IsEventsOf lines (length x.parts.stages)) refused_events (λ (es : List Event). found (Ok (queued x.parts b.2.0 es))) n) same b.2.2))
queues_once names events (fourth ∷ lines ∷ trace ∷ config ∷ more) m n a b = absurd a

-- the configuration by a plan does not depend on which of the codelets of a text are taken, and which of their atoms
module _ (target : Target) (program : List ℕ) (a b : Codelets) (x : IsFitted (shape_of target).fits (shape_of target).multiplies program a) (y : IsFitted (shape_of target).fits (shape_of target).multiplies program b)
    (atoms others : List AtomForm) (p : AreAtomsOf a atoms) (q : AreAtomsOf b others) (same : a.list ≡ b.list) where
  by_plan_same : (places : List Place) → by_plan target a atoms places ≡ by_plan target b others places
  by_plan_same places =
      ap (λ (cs : List Codelet). unless_faulty (hand_fault (shape_of target).depth (shape_of target).stateless (shape_of target).stateful cs places) (text_of target (placed a (shape_of target).depth atoms places))) same
      ∙ ap (λ (z : PartsForm). unless_faulty (hand_fault (shape_of target).depth (shape_of target).stateless (shape_of target).stateful b.list places) (text_of target (shared z)))
      (one_parts (shape_of target).fits (shape_of target).multiplies program a b atoms others (shape_of target).depth places x y p q)

  after_same : (answer : Result (List Place) ℕ) → after_answer refused_plan (by_plan target a atoms) answer ≡ after_answer refused_plan (by_plan target b others) answer
  after_same (Ok places) = by_plan_same places
  after_same (Err n) = refl

  plan_once : (plan : List ℕ) (m n : Next) → Gives (IsPlanAnswer (shape_of target).depth a.list plan) refused_plan (by_plan target a atoms) m
      → Gives (IsPlanAnswer (shape_of target).depth b.list plan) refused_plan (by_plan target b others) n → m ≡ n
  plan_once plan m n g h =
      let e = one_plan (shape_of target).depth a.list plan g.0 h.0 g.1 (subst (λ (cs : List Codelet). IsPlanAnswer (shape_of target).depth cs plan h.0) (sym same) h.1) in
      g.2 ∙ ap (after_answer refused_plan (by_plan target a atoms)) e ∙ after_same h.0 ∙ sym h.2

same_list : (target : Target) (program : List ℕ) (a b : Codelets) → IsFitted (shape_of target).fits (shape_of target).multiplies program a → IsFitted (shape_of target).fits (shape_of target).multiplies program b → a.list ≡ b.list
same_list target program a b x y =
    let e = one_front (shape_of target).fits (shape_of target).multiplies program (Ok a.list) (Ok b.list) (a, x, refl) (b, y, refl) in cc

pub next_once : (command : Command) (texts : List (List ℕ)) (m n : Next) → IsNext command texts m → IsNext command texts n → m ≡ n
next_once (run target files) [] m n a b = a ∙ sym b
next_once (run target files) (program ∷ []) m n a b =
    gives_once (IsCompileAnswer (shape_of target) program) refused_compile (λ parts. ask (trace_file files.trace)) m n (one_compile_answer (shape_of target) program) a b
next_once (run target files) (trace ∷ program ∷ []) m n a b =
    let e = one_compile_answer (shape_of target) program (Ok a.0) (Ok b.0) a.1 b.1 in
    let same : b.0 ≡ a.0 = cc in
    let p : PartsForm = a.0 in
    gives_once (IsTraceOf trace p.fields (length p.stages)) refused_trace (λ packets. found (Ok (clocked p packets))) m n (one_trace trace p.fields (length p.stages)) a.2
    (subst (λ (x : PartsForm). Gives (IsTraceOf trace x.fields (length x.stages)) refused_trace (λ packets. found (Ok (clocked x packets))) n) same b.2)
next_once (run target files) (third ∷ trace ∷ program ∷ more) m n a b = absurd a
next_once (serial files) [] m n a b = a ∙ sym b
next_once (serial files) (program ∷ []) m n a b = gives_once (IsProgram program) refused_program (λ c. ask (trace_file files.trace)) m n (one_program program) a b
next_once (serial files) (trace ∷ program ∷ []) m n a b =
    let e = one_program program (Ok a.0) (Ok b.0) a.1 b.1 in
    let same : b.0 ≡ a.0 = cc in
    let c : CheckedForm = a.0 in
    gives_once (IsTraceOf trace c.fields 0) refused_trace (λ packets. found (Ok (in_turn c packets))) m n (one_trace trace c.fields 0) a.2
    (subst (λ (x : CheckedForm). Gives (IsTraceOf trace x.fields 0) refused_trace (λ packets. found (Ok (in_turn x packets))) n) same b.2)
next_once (serial files) (third ∷ trace ∷ program ∷ more) m n a b = absurd a
next_once (compile target name) [] m n a b = a ∙ sym b
next_once (compile target name) (program ∷ []) m n a b =
    gives_once (IsCompileAnswer (shape_of target) program) refused_compile (λ parts. found (Ok (written (text_of target parts)))) m n (one_compile_answer (shape_of target) program) a b
next_once (compile target name) (second ∷ program ∷ more) m n a b = absurd a
next_once (codelets target name) [] m n a b = a ∙ sym b
next_once (codelets target name) (program ∷ []) m n a b =
    gives_once (IsFrontFor target program) refused_compile (λ cs. found (Ok (written (codelets_text cs)))) m n (one_front (shape_of target).fits (shape_of target).multiplies program) a b
next_once (codelets target name) (second ∷ program ∷ more) m n a b = absurd a
next_once (planned target name file) [] m n a b = a ∙ sym b
next_once (planned target name file) (program ∷ []) m n a b =
    gives_once (IsFrontFor target program) refused_compile (λ cs. ask (plan_file file)) m n (one_front (shape_of target).fits (shape_of target).multiplies program) a b
next_once (planned target name file) (plan ∷ program ∷ []) m n (c, x, (atoms, p, g)) (d, y, (others, q, h)) =
    plan_once target program c d x y atoms others p q (same_list target program c d x y) plan m n g h
next_once (planned target name file) (third ∷ plan ∷ program ∷ more) m n a b = absurd a
next_once (exec names) texts m n a b = over_once names (λ parts. ask (trace_file names.trace)) clocked texts m n a b
next_once (watch names) texts m n a b = over_once names (λ parts. ask (trace_file names.trace)) watched texts m n a b
next_once (probe names stage) texts m n a b = over_once names (trace_behind stage names) (tapped stage) texts m n a b
next_once (elastic names events) texts m n a b = queues_once names events texts m n a b
next_once (schedule names ranking) texts m n a b = over_once names (trace_ranked ranking names) (ranked ranking) texts m n a b
next_once (upgrade name) [] m n a b = a ∙ sym b
next_once (upgrade name) (config ∷ []) m n a b = gives_once (IsConfig config) refused_config (λ c. found (Ok (written (upgraded_text c)))) m n (one_config config) a b
next_once (upgrade name) (second ∷ config ∷ more) m n a b = absurd a
next_once (selfrun target seed count) [] m n a b =
    gives_once (IsCompileAnswer (shape_of target) (own_program target)) refused_compile (λ parts. found (Ok (drawn target seed count parts))) m n
    (one_compile_answer (shape_of target) (own_program target)) a b
next_once (selfrun target seed count) (text ∷ texts) m n a b = absurd a

-- What may be found is what is found in files that are told.

module _ (files : List ℕ → Option (List ℕ)) (command : Command) where
  told_is : (name text other : List ℕ) → MayHold files name text → IsTold files name other → other ≡ text
  told_is name text other may told = subst (λ (o : Option (List ℕ)). IfSome o (λ bytes. bytes ≡ text)) told may

  -- the same file is wanted, and it holds the same
  same_text : (a b : Ask) (text other : List ℕ) → a ≡ b → MayHold files a.name text → IsTold files b.name other → other ≡ text
  same_text a b text other same may told = told_is a.name text other may (subst (λ (x : Ask). IsTold files x.name other) (sym same) told)

  pub one_finding : (texts : List (List ℕ)) (f g : Finding) → IsFoundAfter (MayHold files) command texts f → IsFoundAfter (IsTold files) command texts g → f ≡ g
  one_finding texts f g (ends x) (ends y) = let e = next_once command texts (found f) (found g) x y in cc
  one_finding texts f g (ends x) (over a text y h l e) = let d = next_once command texts (found f) (ask a) x y in absurd (cc)
  one_finding texts f g (ends x) (reads a text y h l e) = let d = next_once command texts (found f) (ask a) x y in absurd (cc)
  one_finding texts f g (over a text x h l e) (ends y) = let d = next_once command texts (ask a) (found g) x y in absurd (cc)
  one_finding texts f g (over a text x h l e) (over b other y k m d) =
      let s = next_once command texts (ask a) (ask b) x y in let same : a ≡ b = cc in e ∙ ap (λ (z : Ask). Err z.over) same ∙ sym d
  one_finding texts f g (over a text x h l e) (reads b other y k m d) =
      let s = next_once command texts (ask a) (ask b) x y in
      let same : a ≡ b = cc in
      let t = same_text a b text other same h k in
      let p : length text ≤ b.most = subst (λ (z : List ℕ). length z ≤ b.most) t m in
      let q : length text ≤ a.most = subst (λ (z : Ask). length text ≤ z.most) (sym same) p in absurd (omega arith)
  one_finding texts f g (reads a text x h l e) (ends y) = let d = next_once command texts (ask a) (found g) x y in absurd (cc)
  one_finding texts f g (reads a text x h l e) (over b other y k m d) =
      let s = next_once command texts (ask a) (ask b) x y in
      let same : a ≡ b = cc in
      let t = same_text a b text other same h k in
      let p : b.most < length text = subst (λ (z : List ℕ). b.most < length z) t m in
      let q : a.most < length text = subst (λ (z : Ask). z.most < length text) (sym same) p in absurd (omega arith)
  one_finding texts f g (reads a text x h l e) (reads b other y k m d) =
      let s = next_once command texts (ask a) (ask b) x y in
      let same : a ≡ b = cc in
      let t = same_text a b text other same h k in
      one_finding (text ∷ texts) f g e (subst (λ (z : List ℕ). IsFoundAfter (IsTold files) command (z ∷ texts) g) t d)

-- What is found in files that hold some bytes is found where that is weaker.
pub found_in_weaker : (H K : List ℕ → List ℕ → Type 0) (command : Command) (texts : List (List ℕ)) (f : Finding) → ((name text : List ℕ) → H name text → K name text)
    → IsFoundAfter H command texts f → IsFoundAfter K command texts f
found_in_weaker H K command texts f weaker (ends x) = ends x
found_in_weaker H K command texts f weaker (over a text x h l e) = over a text x (weaker a.name text h) l e
found_in_weaker H K command texts f weaker (reads a text x h l e) = reads a text x (weaker a.name text h) l (found_in_weaker H K command (text ∷ texts) f weaker e)

-- what is told may be
pub told_may : (files : List ℕ → Option (List ℕ)) (name text : List ℕ) → IsTold files name text → MayHold files name text
told_may files name text told = subst (λ (o : Option (List ℕ)). IfSome o (λ bytes. bytes ≡ text)) (sym told) refl

-- What is unread where a weaker thing is held and the counts are the same.
pub unread_in_weaker : (H K : List ℕ → List ℕ → Type 0) (command : Command) (texts : List (List ℕ)) (before then now : List ℕ → ℕ) → ((name text : List ℕ) → H name text → K name text)
    → ((name : List ℕ) → then name ≡ before name) → IsUnreadAfter H command texts then now → IsUnreadAfter K command texts before now
unread_in_weaker H K command texts before then now weaker same (here a x rose) = here a x (subst (λ (n : ℕ). Rose n (now a.name)) (same a.name) rose)
unread_in_weaker H K command texts before then now weaker same (later a text x h l e) =
    later a text x (weaker a.name text h) l (unread_in_weaker H K command (text ∷ texts) before then now weaker same e)
