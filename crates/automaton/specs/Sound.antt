-- The automaton that is meant by one that keeps its limits. Assumes nothing.
use Rattle.automaton.specs.declared.sound.SoundAutomaton.{SoundAutomaton}
use Rattle.automaton.specs.Limits.{handed, dfa}
use Rattle.automaton.specs.Runs.{Dfa}

-- the automaton as a function
abbrev pub meant : SoundAutomaton → Dfa
meant s = dfa (handed s.automaton)
