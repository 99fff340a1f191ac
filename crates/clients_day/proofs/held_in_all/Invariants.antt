use Rattle.std.proofs.Common.{◌≡◌, ◌+◌, ◌*◌, ◌≤◌, drop}
use Rattle.std.proofs.lemmas.List.Edits.{sets}
use Rattle.clients_day.specs.Days.{held_in_all_by, marks_by}
use Rattle.clients_day.proofs.held_in_all.Given as goal

-- i configurations are added up, and their marks are stored
abbrev pub invariant-loop-i : goal.invariant-loop-i
invariant-loop-i l =
    let cs = l.configurations in
    record {
      so_far : l.sum + held_in_all_by l.limits l.classes (drop l.i cs) ≡ held_in_all_by l.limits l.classes cs;
      small : l.sum ≤ l.i * 255;
      stored : sets l.marks l.i (marks_by l.limits l.classes (drop l.i cs)) ≡ sets l.initial.marks 0 (marks_by l.limits l.classes cs);
    }
