-- How a call ends.
use Rattle.std.specs.Prelude.{◌≡◌, ℕ, ◌≤◌, ◌⊎◌, Option, Some, None, List, []}
use Rattle.dom_io.specs.Causes.{Rose}
use Rattle.dom_io.specs.Held.{IsPart, appended}
use Rattle.dom_words.specs.State.{Hash}
use Rattle.probe_taps.specs.Taps.{TapForm}
use Rattle.dom_finding.specs.Command.{Command, command_of}
use Rattle.dom_finding.specs.Finding.{Finding, IsFoundAfter, IsUnreadAfter, MayHold}
use Rattle.dom_finding.specs.Refusals.{refusal_line, refusal_status, words_line}
use Rattle.dom_finding.specs.Stops.{AreKept, HaveNotFallen}
use Rattle.dom_finding.specs.declared.reading.Stop.{Stop}
use Rattle.dom_finding.specs.declared.reading.Stop.TheVariants.{Refused, Unread, Memory}
use Rattle.dom_shell.specs.Call.{bytes_of, status_of}

-- what was answered, what the sink held, and its count of faults, each before and after
pub record Sent : Type 0 where
  pub answer : ℕ
  pub held_before : Option (List ℕ)
  pub held_after : Option (List ℕ)
  pub faults_before : ℕ
  pub faults_after : ℕ

-- a call: the hash functions, the taps, what the files hold, the shelf's counts of faults before and after, and what was sent
pub record Call : Type 0 where
  pub hash : Hash
  pub taps : List TapForm
  pub files : List ℕ → Option (List ℕ)
  pub unread_before : List ℕ → ℕ
  pub unread_after : List ℕ → ℕ
  pub sent : Sent

abbrev pub sent_as : ℕ → Option (List ℕ) → Option (List ℕ) → ℕ → ℕ → Sent
sent_as answer held held' faults faults' =
    record { answer = answer; held_before = held; held_after = held'; faults_before = faults; faults_after = faults' }

abbrev pub call_of : Hash → List TapForm → (List ℕ → Option (List ℕ)) → (List ℕ → ℕ) → (List ℕ → ℕ) → Sent → Call
call_of hash taps files unread unread' sent =
    record { hash = hash; taps = taps; files = files; unread_before = unread; unread_after = unread'; sent = sent }

-- the bytes were put and the status answered, or the sink failed behind some first ones of them
pub data Tried (status : ℕ) (bytes : List ℕ) (s : Sent) : Type 0 where
  whole : s.answer ≡ status → s.held_after ≡ appended s.held_before bytes → s.faults_after ≡ s.faults_before → Tried status bytes s
  cut : s.answer ≡ 5 → IsPart s.held_before s.held_after bytes → Rose s.faults_before s.faults_after → s.faults_before ≤ s.faults_after → Tried status bytes s

-- nothing was put
pub record IsUnput (status : ℕ) (s : Sent) : Type 0 where
  pub answer_is : s.answer ≡ status
  pub unput : s.held_after ≡ s.held_before
  pub writes : s.faults_after ≡ s.faults_before

-- the bytes were tried to be put, if there was memory for what puts them
abbrev pub IsTriedWithMemory : ℕ → List ℕ → Sent → Type 0
IsTriedWithMemory status bytes s = Tried status bytes s ⊎ IsUnput 6 s

-- what a stop leaves: the line of a refusal was put, or nothing was
abbrev pub AreStopped : Stop → Sent → Type 0
AreStopped (Refused r) s = IsTriedWithMemory (refusal_status r) (refusal_line r) s
AreStopped Unread s = IsUnput 4 s
AreStopped Memory s = IsUnput 6 s

-- how a command ends after these texts: what it found was tried to be put, a file that it wants could not be read, or memory
-- was wanting
pub data IsEndAfter (command : Command) (texts : List (List ℕ)) (call : Call) : Type 0 where
  ends : (found : Finding) → IsFoundAfter (MayHold call.files) command texts found → AreKept call.unread_before call.unread_after → Tried (status_of found) (bytes_of call.hash call.taps found) call.sent → IsEndAfter command texts call
  fails : IsUnreadAfter (MayHold call.files) command texts call.unread_before call.unread_after → HaveNotFallen call.unread_before call.unread_after → IsUnput 4 call.sent → IsEndAfter command texts call
  wants : AreKept call.unread_before call.unread_after → IsUnput 6 call.sent → IsEndAfter command texts call

-- how a call ends: its words are of no form, or as their command does
pub data IsEnd (words : List (List ℕ)) (call : Call) : Type 0 where
  no_command : command_of words ≡ None → AreKept call.unread_before call.unread_after → Tried 2 words_line call.sent → IsEnd words call
  some_command : (command : Command) → command_of words ≡ Some command → IsEndAfter command [] call → IsEnd words call
