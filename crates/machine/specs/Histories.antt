-- Histories: 01, "The machine". The machine is defined over any of them.
--     Histories              what a history is, one label as a history, and how two join
--     History, hands, lists  01's own: a list of labels
--     source, sources        what the tables keep of it: its lowest label
-- Assumes nothing.
use Rattle.std.specs.Prelude.{List, [], ◌∷◌, ◌++◌}
use Rattle.labels.specs.declared.Label.{Label}
use Rattle.labels.specs.Labels.{lower}

pub record Histories : Type 1 where
  pub H : Type 0
  pub one : Label → H
  pub join : H → H → H

-- "a history: a list of labels". It begins with a label: no history of the machine is empty.
pub record History : Type 0 where
  pub first : Label
  pub rest : List Label

-- "A hand is a label that stands in a history"
abbrev pub hands : History → List Label
hands h = h.first ∷ h.rest

-- "appends"
abbrev pub append : History → History → History
append g h = record { first = g.first; rest = g.rest ++ hands h }

abbrev pub lists : Histories
lists = record { H = History; one = λ l. record { first = l; rest = [] }; join = append }

-- "source, the lowest label of its history"
abbrev pub lowest : Label → List Label → Label
lowest l [] = l
lowest l (m ∷ ms) = lower l (lowest m ms)

abbrev pub source : History → Label
source h = lowest h.first h.rest

abbrev pub sources : Histories
sources = record { H = Label; one = λ l. l; join = lower }
