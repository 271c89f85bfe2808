-- Events one after the other, turn by turn, wherever they come from.
--     Going                                what holds at each turn
--     Turned                               what holds behind an event
--     Played                               what holds behind the last
--     going_start, going_turn, going_end   at the start, through a turn, at the end
-- Assumes nothing.
use mathlib.Core.Path.{◌≡◌, refl, sym, ap, ◌∙◌}
use mathlib.Core.List.{List, [], ◌∷◌, ◌++◌, append_assoc, append-nil}
use Prim.Native.Nat.{ℕ, suc, ◌+◌, ◌<◌, ◌≤◌}
use native.Mathlib.Omega.{arith}
use lib.Seq.{drop-cons, set-append_seam}
use lib.ListN.{length, drop, get_or, set}
use Rattle.labels.specs.declared.Label.{Label}
use Rattle.book.specs.Book.{parse}
use Rattle.machine.specs.declared.Event.{Event}
use Rattle.machine.specs.Histories.{sources}
use Rattle.machine.specs.States.{State}
use Rattle.machine.specs.Events.{table_size, Outcome, outcome_of, state_after, answers}
use Rattle.acts.specs.declared.StoredCell.{StoredCell}
use Rattle.acts.specs.declared.StoredJob.{StoredJob}
use Rattle.interpreter.specs.Loop.{Holds, opening}

one_longer : (xs : List ℕ) (a : ℕ) → length (xs ++ a ∷ []) ≡ length xs + 1
one_longer [] a = refl
one_longer (x ∷ xs) a = let e = one_longer xs a in omega arith

-- an answer is written behind those that stand
answer_put : (said before : List ℕ) (at a : ℕ) → length said ≡ at → at < length before
    → set (said ++ drop at before) at a ≡ (said ++ a ∷ []) ++ drop (at + 1) before
answer_put said before at a e h =
    let u : at + 1 ≡ suc at = omega arith in
    let v : drop at before ≡ get_or before at 0 ∷ drop (suc at) before = drop-cons before at 0 h in
    rw (v, u, ← e)
    (set-append_seam said (get_or before (length said) 0) (drop (suc (length said)) before) a
    ∙ sym (append_assoc said (a ∷ []) (drop (suc (length said)) before)))

-- all events of the book b, with job 0 launched at l, and those that are left; the answers as they were before and as they are
pub record Going (b : List ℕ) (l : Label) (everything left : List Event) (before answers_now : List ℕ) (cells : List StoredCell) (n : ℕ) (jobs : List StoredJob)
    (m at : ℕ) : Type 0 where
  pub state : State Label
  pub holds : Holds b state cells n jobs m
  pub rest : state_after sources table_size (parse b) state left ≡ state_after sources table_size (parse b) (opening b l) everything
  pub said : List ℕ
  pub said_long : length said ≡ at
  pub all : said ++ answers sources table_size (parse b) state left ≡ answers sources table_size (parse b) (opening b l) everything
  pub kept : answers_now ≡ said ++ drop at before
  pub counted : at + length left ≡ length everything

-- behind an event: the machine's answer to it in the state s, and its state, which the arrays hold
pub record Turned (b : List ℕ) (s : State Label) (e : Event) (a : ℕ) (cells : List StoredCell) (n : ℕ) (jobs : List StoredJob) (m : ℕ) : Type 0 where
  pub state : State Label
  pub lands : outcome_of sources table_size (parse b) s e ≡ record { answer = a; state = state }
  pub holds : Holds b state cells n jobs m

-- the answers to these events are the machine's, then what stood there; the arrays hold the machine's state
pub record Played (b : List ℕ) (l : Label) (es : List Event) (before after : List ℕ) (cells : List StoredCell) (n : ℕ) (jobs : List StoredJob) (m : ℕ) : Type 0 where
  pub answered : after ≡ answers sources table_size (parse b) (opening b l) es ++ drop (length es) before
  pub holds : Holds b (state_after sources table_size (parse b) (opening b l) es) cells n jobs m

unfoldable pub going_start : (b : List ℕ) (l : Label) (es : List Event) (before : List ℕ) (cells : List StoredCell) (n : ℕ) (jobs : List StoredJob) (m : ℕ)
    → Holds b (opening b l) cells n jobs m → Going b l es es before before cells n jobs m 0
going_start b l es before cells n jobs m h =
    record { state = opening b l; holds = h; rest = refl; said = []; said_long = refl; all = refl; kept = refl; counted = omega arith }

module _ {b : List ℕ} {l : Label} {everything left : List Event} {before answers_now : List ℕ} {cells : List StoredCell} {n : ℕ} {jobs : List StoredJob} {m at : ℕ}
    (g : Going b l everything left before answers_now cells n jobs m at) where
  -- the next event is e
  module _ {e : Event} {later : List Event} (next : left ≡ e ∷ later) where
    pub answer_fits : length everything ≤ length before → at < length before
    answer_fits room = let q = ap length next in omega (arith, g.counted, room)

    pub going_turn : at < length before → {a : ℕ} {cells' : List StoredCell} {n' : ℕ} {jobs' : List StoredJob} {m' : ℕ} → Turned b g.state e a cells' n' jobs' m'
        → Going b l everything later before (set answers_now at a) cells' n' jobs' m' (at + 1)
    unfolding state_after answers
    going_turn fits {a} t =
        record {
          state = t.state;
          holds = t.holds;
          rest =
              sym (ap (λ (s : State Label). state_after sources table_size (parse b) s later) (ap (λ (o : Outcome Label). o.state) t.lands))
              ∙ sym (ap (state_after sources table_size (parse b) g.state) next) ∙ g.rest;
          said = g.said ++ a ∷ [];
          said_long = one_longer g.said a ∙ ap (λ x. x + 1) g.said_long;
          all =
              append_assoc g.said (a ∷ []) (answers sources table_size (parse b) t.state later)
              ∙ rw t.lands refl
              ∙ sym (ap (λ (es : List Event). g.said ++ answers sources table_size (parse b) g.state es) next) ∙ g.all;
          kept = rw g.kept (answer_put g.said before at a g.said_long fits);
          counted = let q = ap length next in omega (arith, g.counted);
        }

    -- its state
    pub turn_state : (fits : at < length before) {a : ℕ} {cells' : List StoredCell} {n' : ℕ} {jobs' : List StoredJob} {m' : ℕ} (t : Turned b g.state e a cells' n' jobs' m')
        → t.state ≡ (going_turn fits t).state
    unfolding going_turn
    turn_state fits t = refl

  -- none is left
  module _ (q : left ≡ []) where
    pub going_count : at ≡ length everything
    going_count = let l = ap length q in omega (arith, g.counted)

    pub going_end : Played b l everything before answers_now cells n jobs m
    unfolding state_after answers
    going_end =
        let all_said : g.said ≡ answers sources table_size (parse b) (opening b l) everything
        = sym (append-nil g.said) ∙ sym (ap (λ (es : List Event). g.said ++ answers sources table_size (parse b) g.state es) q) ∙ g.all in
        let end : g.state ≡ state_after sources table_size (parse b) (opening b l) everything
        = sym (ap (state_after sources table_size (parse b) g.state) q) ∙ g.rest in
        record { answered = g.kept ∙ rw (all_said, going_count) refl; holds = rw (← end) g.holds }
