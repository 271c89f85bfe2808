-- A machine that keeps less of each history: the source in place of the list.
--     Image                             a map of histories that goes with one label and with joining
--     traced_image, .., state_image       the map on values, cells, jobs, states
--     outcome_image                      and on outcomes
--     ImageLaw                          the law, for any image of histories
--     SourceLaw                         the machine that keeps sources is the image of the machine that keeps histories
-- Assumes nothing.
use Rattle.std.specs.Prelude.{ℕ, ◌≡◌, List, map}
use Rattle.labels.specs.declared.Label.{Label}
use Rattle.book.specs.Book.{Book}
use Rattle.machine.specs.declared.Event.{Event}
use Rattle.machine.specs.Histories.{Histories, lists, source, sources}
use Rattle.machine.specs.States.{Traced, Cell, Job, State}
use Rattle.machine.specs.Events.{Outcome, outcome_of, fresh_state, state_after, answers}

pub record Image (A B : Histories) : Type 0 where
  pub of : A.H → B.H
  pub of_one : (l : Label) → of (A.one l) ≡ B.one l
  pub of_join : (g h : A.H) → of (A.join g h) ≡ B.join (of g) (of h)

module _ {G H : Type 0} (f : G → H) where
  abbrev pub traced_image : Traced G → Traced H
  traced_image v = record { value = v.value; history = f v.history }

  abbrev pub cell_image : Cell G → Cell H
  cell_image c = record { shape = c.shape; label = c.label; content = traced_image c.content }

  abbrev pub job_image : Job G → Job H
  job_image j =
      record {
        block = j.block;
        position = j.position;
        label = j.label;
        registers = map traced_image j.registers;
        history = f j.history;
      }

  abbrev pub state_image : State G → State H
  state_image s = record { cells = map cell_image s.cells; jobs = map job_image s.jobs }

  abbrev pub outcome_image : Outcome G → Outcome H
  outcome_image o = record { answer = o.answer; state = state_image o.state }

-- the machine over B is the image of the machine over A: at each event, and so from the start through every list of events
pub record Images (A B : Histories) (f : A.H → B.H) (size : ℕ) (K : Book) : Type 0 where
  pub event_image : (s : State A.H) (e : Event) → outcome_image f (outcome_of A size K s e) ≡ outcome_of B size K (state_image f s) e
  pub fresh_image : (l : Label) → state_image f (fresh_state A K l) ≡ fresh_state B K l
  pub after_image : (l : Label) (es : List Event)
      → state_image f (state_after A size K (fresh_state A K l) es) ≡ state_after B size K (fresh_state B K l) es
  pub answers_image : (l : Label) (es : List Event) → answers A size K (fresh_state A K l) es ≡ answers B size K (fresh_state B K l) es

-- for any image of histories
abbrev pub ImageLaw : Type 1
ImageLaw = (A B : Histories) (i : Image A B) (size : ℕ) (K : Book) → Images A B i.of size K

-- the sources
abbrev pub SourceLaw : Type 0
SourceLaw = (size : ℕ) (K : Book) → Images lists sources source size K
