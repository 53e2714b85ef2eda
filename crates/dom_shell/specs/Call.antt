-- What a call answers: its status, and the bytes that it puts. `taps` are those that are handed in.
use Rattle.std.specs.Prelude.{◌≡◌, ℕ, ◌⊎◌, Option, Some, None, unwrap_or, List, [], map, Ok, Err}
use Rattle.dom_words.specs.Names.{index_of}
use Rattle.dom_io.specs.Held.{IsPart, appended}
use Rattle.trace_text.specs.Trace.{entries}
use Rattle.dom_words.specs.State.{Hash}
use Rattle.probe_taps.specs.Taps.{TapForm}
use Rattle.dom_finding.specs.Command.{Command, command_of}
use Rattle.dom_finding.specs.Finding.{Finding, IsFoundAfter, IsTold, IsUnreadAfter, Job, MayHold, clocked, drawn, in_turn, queued, ranked, tapped, watched, written}
use Rattle.dom_finding.specs.Refusals.{refusal_line, refusal_status, words_line}
use Rattle.dom_report.specs.ElasticReport.{elastic_report}
use Rattle.dom_report.specs.ProbeReport.{attached_at, probe_report}
use Rattle.dom_report.specs.RankedReport.{ranked_report}
use Rattle.dom_report.specs.RunReport.{run_report}
use Rattle.dom_report.specs.SelfRun.{selfrun_report}
use Rattle.dom_report.specs.SerialReport.{serial_report}
use Rattle.dom_report.specs.WatchReport.{watch_report}

-- how many packets a queue of `elastic` holds
abbrev pub queue_room : ℕ
queue_room = 4

-- the position of a field
abbrev pub field_at : List (List ℕ) → List ℕ → ℕ
field_at fields name = unwrap_or (index_of fields name) 0

-- what is put of a job
abbrev pub report_of : Hash → List TapForm → Job → List ℕ
report_of hash taps (clocked parts packets) = run_report hash parts (entries packets)
report_of hash taps (watched parts packets) = watch_report hash parts (entries packets)
report_of hash taps (tapped stage parts packets) = probe_report hash (attached_at stage taps) parts (entries packets)
report_of hash taps (ranked ranking parts packets) = ranked_report hash parts (field_at parts.fields ranking.field) ranking.room ranking.every (entries packets)
report_of hash taps (queued parts packets events) = elastic_report hash queue_room parts (map (λ p. p.1) packets) events
report_of hash taps (drawn target seed count parts) = selfrun_report hash target seed count parts
report_of hash taps (in_turn c packets) = serial_report hash c (map (λ p. p.1) packets)
report_of hash taps (written text) = text

-- the status and the bytes of what a command found
abbrev pub status_of : Finding → ℕ
status_of (Ok job) = 0
status_of (Err r) = refusal_status r

abbrev pub bytes_of : Hash → List TapForm → Finding → List ℕ
bytes_of hash taps (Ok job) = report_of hash taps job
bytes_of hash taps (Err r) = refusal_line r

-- the status and the bytes of a call with these words, where `Holds` says which bytes the files hold: the words are of no form,
-- or their command finds something
pub data IsAnswer (hash : Hash) (taps : List TapForm) (Holds : List ℕ → List ℕ → Type 0) (words : List (List ℕ)) (status : ℕ) (bytes : List ℕ) : Type 0 where
  no_command : command_of words ≡ None → status ≡ 2 → bytes ≡ words_line → IsAnswer hash taps Holds words status bytes
  some_command : (command : Command) (found : Finding) → command_of words ≡ Some command → IsFoundAfter Holds command [] found → status ≡ status_of found → bytes ≡ bytes_of hash taps found → IsAnswer hash taps Holds words status bytes

-- where the files are told to hold these bytes
abbrev pub IsResult : Hash → List TapForm → List (List ℕ) → (List ℕ → Option (List ℕ)) → ℕ → List ℕ → Type 0
IsResult hash taps words files status bytes = IsAnswer hash taps (IsTold files) words status bytes

-- a call answers a result: with its status and its bytes, or with a fault of reading, a fault of writing behind some first
-- ones of its bytes, or want of memory
abbrev pub Answers : ℕ → List ℕ → ℕ → Option (List ℕ) → Option (List ℕ) → Type 0
Answers status bytes answer held held' =
    ((answer ≡ status) × (held' ≡ appended held bytes)) ⊎ ((answer ≡ 4) ⊎ (((answer ≡ 5) × IsPart held held' bytes) ⊎ (answer ≡ 6)))

-- The causes of the answers, where a file need not be told.

-- the bytes that belong to the status were put
pub record IsPut (hash : Hash) (taps : List TapForm) (words : List (List ℕ)) (files : List ℕ → Option (List ℕ)) (status : ℕ) (held held' : Option (List ℕ)) : Type 0 where
  pub bytes : List ℕ
  pub answer : IsAnswer hash taps (MayHold files) words status bytes
  pub put : held' ≡ appended held bytes

-- some first ones of the bytes of a status were put
pub record IsPutInPart (hash : Hash) (taps : List TapForm) (words : List (List ℕ)) (files : List ℕ → Option (List ℕ)) (held held' : Option (List ℕ)) : Type 0 where
  pub status : ℕ
  pub bytes : List ℕ
  pub answer : IsAnswer hash taps (MayHold files) words status bytes
  pub part : IsPart held held' bytes

-- a file that the command wants could not be read
pub record IsUnread (words : List (List ℕ)) (files : List ℕ → Option (List ℕ)) (before now : List ℕ → ℕ) : Type 0 where
  pub command : Command
  pub form : command_of words ≡ Some command
  pub unread : IsUnreadAfter (MayHold files) command [] before now
