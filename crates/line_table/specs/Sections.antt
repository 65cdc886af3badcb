-- The sections of the line table.
use Rattle.line_table.specs.declared.lines.Line.{Line}
use Rattle.line_table.specs.declared.lines.Line.TheVariants.{N1, N2, N3, N4, N5, F1, F2, F3, E2, E3, E5, E6, E7, E9, E13, E17, D2, D3, D4, D5, D10}
use Rattle.line_table.specs.declared.lines.Line.TheVariants.{D12, D13, A1, A2, A3, A4, A5, A6, A7, B1, B2, B3, B4, B5, B6, S1, S2, S3, S4, S5, S6, S7}
use Rattle.line_table.specs.declared.lines.Line.TheVariants.{S8, S9}
use Rattle.line_table.specs.declared.lines.Section.{Section}
use Rattle.line_table.specs.declared.lines.Section.TheVariants.{NewNode, Free, Enqueue, Dequeue, LockedEnqueue, LockedDequeue, Shut, LockedShut}

-- the section in which a line stands
abbrev pub section_of : Line → Section
section_of N1 = NewNode
section_of N2 = NewNode
section_of N3 = NewNode
section_of N4 = NewNode
section_of N5 = NewNode
section_of F1 = Free
section_of F2 = Free
section_of F3 = Free
section_of E2 = Enqueue
section_of E3 = Enqueue
section_of E5 = Enqueue
section_of E6 = Enqueue
section_of E7 = Enqueue
section_of E9 = Enqueue
section_of E13 = Enqueue
section_of E17 = Enqueue
section_of D2 = Dequeue
section_of D3 = Dequeue
section_of D4 = Dequeue
section_of D5 = Dequeue
section_of D10 = Dequeue
section_of D12 = Dequeue
section_of D13 = Dequeue
section_of A1 = LockedEnqueue
section_of A2 = LockedEnqueue
section_of A3 = LockedEnqueue
section_of A4 = LockedEnqueue
section_of A5 = LockedEnqueue
section_of A6 = LockedEnqueue
section_of A7 = LockedEnqueue
section_of B1 = LockedDequeue
section_of B2 = LockedDequeue
section_of B3 = LockedDequeue
section_of B4 = LockedDequeue
section_of B5 = LockedDequeue
section_of B6 = LockedDequeue
section_of S1 = Shut
section_of S2 = Shut
section_of S3 = Shut
section_of S4 = Shut
section_of S5 = Shut
section_of S6 = LockedShut
section_of S7 = LockedShut
section_of S8 = LockedShut
section_of S9 = LockedShut
