-- The library for other languages: each answer as numbers, of 32 bits but for the offset of what follows.
--     checked, found         the verdict on a book; a block's stretch
--     Call, called           a run: what is answered, and what the lent memory holds after the call
--     RoundCall, round_called     the same of a round
--     fields_told             the record or the event at an offset
--     label_of, launch_of      a number as a label; as a launch label or none
--     WriteCall, wrote       a book from tables: what is answered, and what the buffer holds
-- Assumes nothing.
use Rattle.std.specs.Prelude.{ℕ, min, List, eqb}
use Rattle.labels.specs.declared.Label.{Label}
use Rattle.labels.specs.Labels.{label}
use Rattle.book.specs.Outcome.{Refusal, Passed}
use Rattle.book.specs.Outcome as R
use Rattle.book.specs.Stretch.{Found}
use Rattle.book.specs.Control.{when◌then◌else◌}
use Rattle.typing.specs.Verdict.{Verdict}
use Rattle.typing.specs.Verdict.{Accepted, Refused}
use Rattle.machine.specs.Launch.{Launch}
use Rattle.std.specs.Prelude.{None, Some}
use Rattle.interpreter.specs.Run.{Run}
use Rattle.scheduler.specs.Rounds.{Round}
use Rattle.listing.specs.declared.Fields.{Fields}
use Rattle.rows.specs.Write.{WriteResult}
use Rattle.xemdulba.specs.declared.Checked.{Checked}
use Rattle.xemdulba.specs.declared.Ran.{Ran}
use Rattle.xemdulba.specs.declared.Rounded.{Rounded}
use Rattle.xemdulba.specs.declared.Stretch.{Stretch}
use Rattle.xemdulba.specs.declared.Told.{Told}
use Rattle.xemdulba.specs.declared.Written.{Written}

-- 0 stands for acceptance
unfoldable pub checked : Verdict → Checked
checked (Accepted i k b p) =
    record { refusal = 0; place = 0; shapes = i; cells = k; blocks = b; steps = p }
checked (Refused n o) = record { refusal = n; place = o; shapes = 0; cells = 0; blocks = 0; steps = 0 }

unfoldable pub found_by : Refusal → ℕ → ℕ → Stretch
found_by Passed a l = record { refusal = 0; place = 0; start = a; length = l }
found_by (R.Refused n o) a l = record { refusal = n; place = o; start = 0; length = 0 }

abbrev pub found : Found → Stretch
found f = found_by f.refusal f.start f.length

-- 0 stands for a run that is not refused
unfoldable pub ran_by : Refusal → ℕ → ℕ → Ran
ran_by Passed n m = record { refusal = 0; place = 0; cells = n; jobs = m }
ran_by (R.Refused k o) n m = record { refusal = k; place = o; cells = 0; jobs = 0 }

-- the answer, and the cell table, the job table and the answer buffer after the call
pub record Call : Type 0 where
  pub result : Ran
  pub cells : List ℕ
  pub jobs : List ℕ
  pub answered : List ℕ

unfoldable pub called : Run → Call
called x =
    record {
      result = ran_by x.refusal x.cell_count x.job_count;
      cells = x.cells;
      jobs = x.jobs;
      answered = x.answered;
    }

-- 0 stands for a round that is not refused
unfoldable pub rounded_by : Refusal → ℕ → ℕ → ℕ → Rounded
rounded_by Passed n m t = record { refusal = 0; place = 0; cells = n; jobs = m; turns = t }
rounded_by (R.Refused k o) n m t = record { refusal = k; place = o; cells = 0; jobs = 0; turns = 0 }

-- the answer, and the cell table, the job table and the answer buffer after the call
pub record RoundCall : Type 0 where
  pub result : Rounded
  pub cells : List ℕ
  pub jobs : List ℕ
  pub answered : List ℕ

unfoldable pub round_called : Round → RoundCall
round_called x =
    record {
      result = rounded_by x.run.refusal x.run.cell_count x.run.job_count x.turns;
      cells = x.run.cells;
      jobs = x.run.jobs;
      answered = x.run.answered;
    }

-- the same numbers; kind 0 stands for nothing
abbrev pub fields_told : Fields → Told
fields_told f =
    record {
      kind = f.kind;
      first = f.first;
      second = f.second;
      third = f.third;
      number = f.number;
      next = f.next;
    }

-- what is larger than a byte counts as 255, which is above every label
unfoldable pub label_of : ℕ → Label
label_of n = label (min n 255)

-- 02, Three: "A run now takes a launch label". XEMDULBA_DEFAULT_LAUNCH, the largest number of 32 bits, stands for none.
abbrev pub default_launch : ℕ
default_launch = 4294967295

unfoldable pub launch_of : ℕ → Launch
launch_of n = when eqb n default_launch then None else Some (label_of n)

-- 0 stands for a book that is written
unfoldable pub written_by : Refusal → ℕ → Written
written_by Passed l = record { refusal = 0; place = 0; length = l }
written_by (R.Refused n o) l = record { refusal = n; place = o; length = 0 }

-- the answer, and the buffer after the call
pub record WriteCall : Type 0 where
  pub result : Written
  pub out : List ℕ

unfoldable pub wrote : WriteResult → WriteCall
wrote w = record { result = written_by w.refusal w.length; out = w.out }
