-- What a call answers, from how it ended.
use Rattle.std.proofs.Common.{◌≡◌, ℕ, ◌<◌, ◌≤◌, ◌⊎◌, inl, inr, List, [], ◌∷◌, length, refl, sym, ap, ◌∙◌, subst, Option, None, IfSome, Result, Ok, Err, MatchResult, arith}
use Rattle.dom_io.specs.Causes.{HasCause, Rose}
use Rattle.dom_io.specs.Held.{IsPart, Puts, appended}
use Rattle.dom_io.specs.declared.sink.SinkFault.{SinkFault}
use Rattle.dom_words.specs.State.{Hash}
use Rattle.probe_taps.specs.Taps.{TapForm}
use Rattle.dom_finding.specs.Command.{Command, command_of}
use Rattle.dom_finding.specs.Finding.{Ask, Finding, IsFoundAfter, IsNext, IsTold, IsUnreadAfter, Job, MayHold, ask, here, later}
use Rattle.dom_finding.specs.Finding.{reads as reads_text}
use Rattle.dom_finding.specs.Refusals.{refusal_status, words_line}
use Rattle.dom_finding.specs.Stops.{AreKept, StopAfter}
use Rattle.dom_finding.specs.declared.reading.Stop.{Stop}
use Rattle.dom_finding.specs.declared.reading.Stop.TheVariants.{Refused, Unread, Memory}
use Rattle.dom_finding.specs.declared.refusals.Refusal.{Refusal}
use Rattle.dom_finding.specs.declared.refusals.Refusal.TheVariants as refusal
use Rattle.dom_finding.proofs.OneFinding.{found_in_weaker, one_finding, told_may, unread_in_weaker}
use Rattle.dom_shell.specs.Call as said
use Rattle.dom_shell.specs.Call.{Answers, IsAnswer, IsPut, IsPutInPart, IsResult, IsUnread, bytes_of, report_of, status_of}
use Rattle.dom_shell.specs.Ends.{AreStopped, Call, IsEnd, IsEndAfter, IsTriedWithMemory, Sent, Tried, call_of, cut, ends, fails, no_command, some_command, wants, whole}

-- A refusal's status is 1 or 3.

status_small : (r : Refusal) → refusal_status r ≤ 3
status_small refusal.ProgramLimit = omega arith
status_small (refusal.Lex f) = omega arith
status_small (refusal.Parse f) = omega arith
status_small (refusal.Check f) = omega arith
status_small (refusal.Statements n) = omega arith
status_small (refusal.Outside n) = omega arith
status_small (refusal.Deep chain) = omega arith
status_small (refusal.Full n kind stage) = omega arith
status_small refusal.ConfigLimit = omega arith
status_small (refusal.ConfigLine n) = omega arith
status_small refusal.UnknownTarget = omega arith
status_small (refusal.Config kind stage atom) = omega arith
status_small (refusal.Stage depth) = omega arith
status_small refusal.Rank = omega arith
status_small refusal.TraceLimit = omega arith
status_small (refusal.Trace f) = omega arith
status_small refusal.EventsLimit = omega arith
status_small (refusal.Events n) = omega arith
status_small refusal.PlanLimit = omega arith
status_small (refusal.PlanLine n) = omega arith
status_small (refusal.PlanEarly codelet used) = omega arith
status_small (refusal.PlanWide stage kind) = omega arith

status_not_two : (r : Refusal) → refusal_status r ≡ 2 → ⊥
status_not_two refusal.ProgramLimit e = omega arith
status_not_two (refusal.Lex f) e = omega arith
status_not_two (refusal.Parse f) e = omega arith
status_not_two (refusal.Check f) e = omega arith
status_not_two (refusal.Statements n) e = omega arith
status_not_two (refusal.Outside n) e = omega arith
status_not_two (refusal.Deep chain) e = omega arith
status_not_two (refusal.Full n kind stage) e = omega arith
status_not_two refusal.ConfigLimit e = omega arith
status_not_two (refusal.ConfigLine n) e = omega arith
status_not_two refusal.UnknownTarget e = omega arith
status_not_two (refusal.Config kind stage atom) e = omega arith
status_not_two (refusal.Stage depth) e = omega arith
status_not_two refusal.Rank e = omega arith
status_not_two refusal.TraceLimit e = omega arith
status_not_two (refusal.Trace f) e = omega arith
status_not_two refusal.EventsLimit e = omega arith
status_not_two (refusal.Events n) e = omega arith
status_not_two refusal.PlanLimit e = omega arith
status_not_two (refusal.PlanLine n) e = omega arith
status_not_two (refusal.PlanEarly codelet used) e = omega arith
status_not_two (refusal.PlanWide stage kind) e = omega arith

few : (found : Finding) → status_of found ≤ 3
few (Ok job) = omega arith
few (Err r) = status_small r

not_two : (found : Finding) → status_of found ≡ 2 → ⊥
not_two (Ok job) e = omega arith
not_two (Err r) e = status_not_two r e

-- A call has one result.

pub one_answer : (hash : Hash) (taps : List TapForm) (files : List ℕ → Option (List ℕ)) (words : List (List ℕ)) (s t : ℕ) (a b : List ℕ) → IsAnswer hash taps (MayHold files) words s a → IsAnswer hash taps (IsTold files) words t b → (s ≡ t) × (a ≡ b)
one_answer hash taps files words s t a b (said.no_command n e d) (said.no_command m f g) = (e ∙ sym f, d ∙ sym g)
one_answer hash taps files words s t a b (said.no_command n e d) (said.some_command k found m x f g) = absurd (cc)
one_answer hash taps files words s t a b (said.some_command k found n x e d) (said.no_command m f g) = absurd (cc)
one_answer hash taps files words s t a b (said.some_command k found n x e d) (said.some_command l other m y f g) =
    let same : l ≡ k = cc in
    let one = one_finding files k [] found other x (subst (λ (z : Command). IsFoundAfter (IsTold files) z [] other) same y) in
    (e ∙ ap status_of one ∙ sym f, d ∙ ap (bytes_of hash taps) one ∙ sym g)

-- Where files are told, they may hold what they are told to hold.
told_answer : (hash : Hash) (taps : List TapForm) (files : List ℕ → Option (List ℕ)) (words : List (List ℕ)) (status : ℕ) (bytes : List ℕ) → IsResult hash taps words files status bytes → IsAnswer hash taps (MayHold files) words status bytes
told_answer hash taps files words status bytes (said.no_command n e d) = said.no_command n e d
told_answer hash taps files words status bytes (said.some_command k f n x e d) =
    said.some_command k f n (found_in_weaker (IsTold files) (MayHold files) k [] f (told_may files) x) e d

pub one_result : (hash : Hash) (taps : List TapForm) (files : List ℕ → Option (List ℕ)) (words : List (List ℕ)) (s t : ℕ) (a b : List ℕ) → IsResult hash taps words files s a → IsResult hash taps words files t b → (s ≡ t) × (a ≡ b)
one_result hash taps files words s t a b x y = one_answer hash taps files words s t a b (told_answer hash taps files words s a x) y

-- The bytes of an answer, as far as they were put.

module _ (hash : Hash) (taps : List TapForm) (words : List (List ℕ)) (files : List ℕ → Option (List ℕ)) (s : Sent) (status : ℕ) (bytes : List ℕ) (is : IsAnswer hash taps (MayHold files) words status bytes) where
  tried_exact : Tried status bytes s → (other : ℕ) (line : List ℕ) → IsResult hash taps words files other line → Answers other line s.answer s.held_before s.held_after
  tried_exact (whole a p w) other line result =
      let one = one_answer hash taps files words status other bytes line is result in inl (a ∙ one.0, p ∙ ap (appended s.held_before) one.1)
  tried_exact (cut a p r l) other line result =
      let one = one_answer hash taps files words status other bytes line is result in
      inr (inr (inl (a, subst (λ (b : List ℕ). IsPart s.held_before s.held_after b) one.1 p)))

  tried_put : Tried status bytes s → s.answer < 4 → IsPut hash taps words files s.answer s.held_before s.held_after
  tried_put (whole a p w) small =
      record { bytes = bytes; answer = subst (λ (n : ℕ). IsAnswer hash taps (MayHold files) words n bytes) (sym a) is; put = p }
  tried_put (cut a p r l) small = absurd (omega arith)

  tried_part : status ≤ 3 → Tried status bytes s → s.answer ≡ 5 → IsPutInPart hash taps words files s.held_before s.held_after
  tried_part small (whole a p w) e = absurd (omega arith)
  tried_part small (cut a p r l) e = record { status = status; bytes = bytes; answer = is; part = p }

module _ (s : Sent) (status : ℕ) (bytes : List ℕ) (small : status ≤ 3) where
  tried_small : Tried status bytes s → s.answer ≤ 6
  tried_small (whole a p w) = omega arith
  tried_small (cut a p r l) = omega arith

  tried_not : Tried status bytes s → (s.answer ≡ 4) ⊎ (s.answer ≡ 6) → ⊥
  tried_not (whole a p w) (inl e) = omega arith
  tried_not (whole a p w) (inr e) = omega arith
  tried_not (cut a p r l) (inl e) = omega arith
  tried_not (cut a p r l) (inr e) = omega arith

  tried_rose : Tried status bytes s → s.answer ≡ 5 → Rose s.faults_before s.faults_after
  tried_rose (whole a p w) e = absurd (omega arith)
  tried_rose (cut a p r l) e = r

  tried_later : Tried status bytes s → s.faults_before ≤ s.faults_after
  tried_later (whole a p w) = omega arith
  tried_later (cut a p r l) = l

  tried_kept : Tried status bytes s → (s.answer ≡ 5 → ⊥) → s.faults_after ≡ s.faults_before
  tried_kept (whole a p w) other = w
  tried_kept (cut a p r l) other = absurd (other a)

-- How a call ends.

module _ {words : List (List ℕ)} {call : Call} where
  pub small : IsEnd words call → call.sent.answer ≤ 6
  small (no_command n k t) = tried_small call.sent 2 words_line (omega arith) t
  small (some_command c n (ends f x k t)) = tried_small call.sent (status_of f) (bytes_of call.hash call.taps f) (few f) t
  small (some_command c n (fails u l p)) = let a = p.answer_is in omega arith
  small (some_command c n (wants k p)) = let a = p.answer_is in omega arith

  pub exact : IsEnd words call → (status : ℕ) (bytes : List ℕ) → IsResult call.hash call.taps words call.files status bytes → Answers status bytes call.sent.answer call.sent.held_before call.sent.held_after
  exact (no_command n k t) status bytes is = tried_exact call.hash call.taps words call.files call.sent 2 words_line (said.no_command n refl refl) t status bytes is
  exact (some_command c n (ends f x k t)) status bytes is =
      tried_exact call.hash call.taps words call.files call.sent (status_of f) (bytes_of call.hash call.taps f) (said.some_command c f n x refl refl) t status bytes is
  exact (some_command c n (fails u l p)) status bytes is = inr (inl p.answer_is)
  exact (some_command c n (wants k p)) status bytes is = inr (inr (inr p.answer_is))

  pub only_words : IsEnd words call → command_of words ≡ None → (call.sent.answer ≡ 2) ⊎ (call.sent.answer ≡ 5)
  only_words (no_command n k (whole a p w)) none = inl a
  only_words (no_command n k (cut a p r l)) none = inr a
  only_words (some_command c n e) none = absurd (cc)

  pub no_words : IsEnd words call → call.sent.answer ≡ 2 → command_of words ≡ None
  no_words (no_command n k t) e = n
  no_words (some_command c n (ends f x k (whole a p w))) e = absurd (not_two f (sym a ∙ e))
  no_words (some_command c n (ends f x k (cut a p r l))) e = absurd (omega arith)
  no_words (some_command c n (fails u l p)) e = let a = p.answer_is in absurd (omega arith)
  no_words (some_command c n (wants k p)) e = let a = p.answer_is in absurd (omega arith)

  pub put : IsEnd words call → call.sent.answer < 4 → IsPut call.hash call.taps words call.files call.sent.answer call.sent.held_before call.sent.held_after
  put (no_command n k t) few_are = tried_put call.hash call.taps words call.files call.sent 2 words_line (said.no_command n refl refl) t few_are
  put (some_command c n (ends f x k t)) few_are =
      tried_put call.hash call.taps words call.files call.sent (status_of f) (bytes_of call.hash call.taps f) (said.some_command c f n x refl refl) t few_are
  put (some_command c n (fails u l p)) few_are = let a = p.answer_is in absurd (omega arith)
  put (some_command c n (wants k p)) few_are = let a = p.answer_is in absurd (omega arith)

  pub part : IsEnd words call → call.sent.answer ≡ 5 → IsPutInPart call.hash call.taps words call.files call.sent.held_before call.sent.held_after
  part (no_command n k t) e = tried_part call.hash call.taps words call.files call.sent 2 words_line (said.no_command n refl refl) (omega arith) t e
  part (some_command c n (ends f x k t)) e =
      tried_part call.hash call.taps words call.files call.sent (status_of f) (bytes_of call.hash call.taps f) (said.some_command c f n x refl refl) (few f) t e
  part (some_command c n (fails u l p)) e = let a = p.answer_is in absurd (omega arith)
  part (some_command c n (wants k p)) e = let a = p.answer_is in absurd (omega arith)

  pub unread : IsEnd words call → call.sent.answer ≡ 4 → IsUnread words call.files call.unread_before call.unread_after
  unread (no_command n k t) e = absurd (tried_not call.sent 2 words_line (omega arith) t (inl e))
  unread (some_command c n (ends f x k t)) e = absurd (tried_not call.sent (status_of f) (bytes_of call.hash call.taps f) (few f) t (inl e))
  unread (some_command c n (fails u l p)) e = record { command = c; form = n; unread = u }
  unread (some_command c n (wants k p)) e = let a = p.answer_is in absurd (omega arith)

  pub reads_later : IsEnd words call → (name : List ℕ) → call.unread_before name ≤ call.unread_after name
  reads_later (no_command n k t) name = let e = k name in omega arith
  reads_later (some_command c n (ends f x k t)) name = let e = k name in omega arith
  reads_later (some_command c n (fails u l p)) name = l name
  reads_later (some_command c n (wants k p)) name = let e = k name in omega arith

  pub reads : IsEnd words call → (call.sent.answer ≡ 4 → ⊥) → AreKept call.unread_before call.unread_after
  reads (no_command n k t) other = k
  reads (some_command c n (ends f x k t)) other = k
  reads (some_command c n (fails u l p)) other = absurd (other p.answer_is)
  reads (some_command c n (wants k p)) other = k

  pub rose : IsEnd words call → call.sent.answer ≡ 5 → Rose call.sent.faults_before call.sent.faults_after
  rose (no_command n k t) e = tried_rose call.sent 2 words_line (omega arith) t e
  rose (some_command c n (ends f x k t)) e = tried_rose call.sent (status_of f) (bytes_of call.hash call.taps f) (few f) t e
  rose (some_command c n (fails u l p)) e = let a = p.answer_is in absurd (omega arith)
  rose (some_command c n (wants k p)) e = let a = p.answer_is in absurd (omega arith)

  pub writes_later : IsEnd words call → call.sent.faults_before ≤ call.sent.faults_after
  writes_later (no_command n k t) = tried_later call.sent 2 words_line (omega arith) t
  writes_later (some_command c n (ends f x k t)) = tried_later call.sent (status_of f) (bytes_of call.hash call.taps f) (few f) t
  writes_later (some_command c n (fails u l p)) = let w = p.writes in omega arith
  writes_later (some_command c n (wants k p)) = let w = p.writes in omega arith

  pub writes : IsEnd words call → (call.sent.answer ≡ 5 → ⊥) → call.sent.faults_after ≡ call.sent.faults_before
  writes (no_command n k t) other = tried_kept call.sent 2 words_line (omega arith) t other
  writes (some_command c n (ends f x k t)) other = tried_kept call.sent (status_of f) (bytes_of call.hash call.taps f) (few f) t other
  writes (some_command c n (fails u l p)) other = p.writes
  writes (some_command c n (wants k p)) other = p.writes

  pub unput : IsEnd words call → (call.sent.answer ≡ 4) ⊎ (call.sent.answer ≡ 6) → call.sent.held_after ≡ call.sent.held_before
  unput (no_command n k t) e = absurd (tried_not call.sent 2 words_line (omega arith) t e)
  unput (some_command c n (ends f x k t)) e = absurd (tried_not call.sent (status_of f) (bytes_of call.hash call.taps f) (few f) t e)
  unput (some_command c n (fails u l p)) e = p.unput
  unput (some_command c n (wants k p)) e = p.unput

-- Where the files are the same, the same may be held.
same_may : (files mid : List ℕ → Option (List ℕ)) → ((name : List ℕ) → mid name ≡ files name) → (name text : List ℕ) → MayHold mid name text → MayHold files name text
same_may files mid same name text holds = subst (λ (o : Option (List ℕ)). IfSome o (λ told. told ≡ text)) (same name) holds

-- How a command ends, from what it did.

-- bytes that were put, or that the sink did not take
pub put_tried : (result : Result (Unit {0}) SinkFault) (s : Sent) (bytes : List ℕ) → Puts s.held_before s.held_after bytes result → HasCause s.faults_before s.faults_after result
    → MatchResult result (λ _. s.answer ≡ 0) (λ _. s.answer ≡ 5) → Tried 0 bytes s
put_tried (Ok x) s bytes put cause is = whole is put cause.kept
put_tried (Err e) s bytes put cause is = cut is put cause.failed cause.later

module _ (command : Command) (texts : List (List ℕ)) (call : Call) where
  -- a report that was put, or that the sink did not take
  pub report_end : (job : Job) (result : Result (Unit {0}) SinkFault) → IsFoundAfter (MayHold call.files) command texts (Ok job) → AreKept call.unread_before call.unread_after
      → Puts call.sent.held_before call.sent.held_after (report_of call.hash call.taps job) result → HasCause call.sent.faults_before call.sent.faults_after result
      → MatchResult result (λ _. call.sent.answer ≡ 0) (λ _. call.sent.answer ≡ 5) → IsEndAfter command texts call
  report_end job result found kept bytes cause is = ends (Ok job) found kept (put_tried result call.sent (report_of call.hash call.taps job) bytes cause is)

  -- the same, where what puts it may want memory
  pub tried_end : (job : Job) → IsFoundAfter (MayHold call.files) command texts (Ok job) → AreKept call.unread_before call.unread_after
      → IsTriedWithMemory 0 (report_of call.hash call.taps job) call.sent → IsEndAfter command texts call
  tried_end job found kept (inl t) = ends (Ok job) found kept t
  tried_end job found kept (inr want) = wants kept want

  -- a stop
  pub stop_end : (stop : Stop) → StopAfter command texts call.files call.unread_before call.unread_after stop → AreStopped stop call.sent → IsEndAfter command texts call
  stop_end (Refused r) cause (inl t) = ends (Err r) cause.0 cause.1 t
  stop_end (Refused r) cause (inr want) = wants cause.1 want
  stop_end Unread cause unput_is = fails cause.0 cause.1 unput_is
  stop_end Memory cause want = wants cause want

-- An end behind the next text, whose read moved nothing, is an end before it.
pub end_read_on : (command : Command) (texts : List (List ℕ)) (a : Ask) (text : List ℕ) (hash : Hash) (taps : List TapForm) (files mid : List ℕ → Option (List ℕ)) (before then now : List ℕ → ℕ) (sent : Sent)
    → IsNext command texts (ask a) → MayHold files a.name text → length text ≤ a.most → ((name : List ℕ) → mid name ≡ files name) → AreKept before then
    → IsEndAfter command (text ∷ texts) (call_of hash taps mid then now sent) → IsEndAfter command texts (call_of hash taps files before now sent)
end_read_on command texts a text hash taps files mid before then now sent next holds few same kept (ends found x k t) =
    ends found (reads_text a text next holds few (found_in_weaker (MayHold mid) (MayHold files) command (text ∷ texts) found (same_may files mid same) x)) (λ name. k name ∙ kept name) t
end_read_on command texts a text hash taps files mid before then now sent next holds few same kept (fails u l p) =
    fails (later a text next holds few (unread_in_weaker (MayHold mid) (MayHold files) command (text ∷ texts) before then now (same_may files mid same) kept u))
    (λ name. let e = kept name in let m = l name in omega arith) p
end_read_on command texts a text hash taps files mid before then now sent next holds few same kept (wants k p) = wants (λ name. k name ∙ kept name) p

-- A count that stands at 0 has not risen.

pub never_rose : Rose 0 0 → ⊥
never_rose rose = omega (arith, rose)

pub never_unread : {Holds : List ℕ → List ℕ → Type 0} {command : Command} {texts : List (List ℕ)} → IsUnreadAfter Holds command texts (λ _. 0) (λ _. 0) → ⊥
never_unread (here a n rose) = never_rose rose
never_unread (later a text n h l is) = never_unread is
