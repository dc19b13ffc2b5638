-- What each status of a run says, by how it ended.
use Rattle.std.proofs.Common.{◌≡◌, inl, inr, ℕ, List, refl, arith, string_bytes}
use Rattle.optra_outside.specs.Shelf.{GetLeaves}
use Rattle.optra_frame.specs.declared.fault.Fault.{Fault}
use Rattle.optra_frame.specs.declared.fault.Fault.TheVariants.{Refused, Read, Absent, TooLong, Write, Disk, NoMemory}
use Rattle.optra_frame.specs.declared.declined.Declined.TheVariants.{Table, Coded, Journal}
use Rattle.optra_text.specs.FaultLines.{usage_line, memory_line}
use Rattle.optra_frame.specs.CommandLaws.{IsLawful}
use Rattle.optra_frame.specs.Commands.{Meaning, Request, asks, no_form}
use Rattle.optra_frame.specs.Ending.{Ends, IsDone}
use Rattle.optra_frame.specs.Faults.{EndsBy, line_of, status_of}
use Rattle.optra_frame.specs.Outside.{Outside, Says}
use Rattle.optra_frame.specs.Statuses.{usage_status, memory_status, IsFaultStatus}

pub Ends-usage : (forms : List ℕ) (before now : Outside) → now.shelf ≡ before.shelf → now.out ≡ before.out → Says before now (usage_line forms) → Ends (no_form forms) before now usage_status
Ends-usage forms before now shelf out says = record {
  done = λ no. absurd (no (inl refl));
  usage = λ _. (shelf, out, says);
  refused_so = λ is. absurd (omega arith);
  read = λ is. absurd (omega arith);
  absent = λ is. absurd (omega arith);
  too_long = λ is. absurd (omega arith);
  write = λ is. absurd (omega arith);
  disk_failed = λ is. absurd (omega arith);
  memory = λ is. absurd (omega arith);
}

-- memory ran out before it was known what the words ask for
pub Ends-unread : (request : Request) (before now : Outside) → GetLeaves before.shelf now.shelf → now.out ≡ before.out → Says before now memory_line → Ends request before now memory_status
Ends-unread request before now shelf out says = record {
  done = λ no. absurd (no (inr (inr (inr (inr (inr (inl refl)))))));
  usage = λ is. absurd (omega arith);
  refused_so = λ is. absurd (omega arith);
  read = λ is. absurd (omega arith);
  absent = λ is. absurd (omega arith);
  too_long = λ is. absurd (omega arith);
  write = λ is. absurd (omega arith);
  disk_failed = λ is. absurd (omega arith);
  memory = λ _. (record { shelf = shelf; out = out }, says);
}

pub Ends-done : (command : Meaning) (before now : Outside) (status : ℕ) → IsLawful command → IsDone command before now status → Ends (asks command) before now status
Ends-done command before now status lawful done =
    let not_one = lawful.done_apart status done.done in
    record {
      done = λ _. done;
      usage = λ is. absurd (not_one (inl is));
      refused_so = λ is. absurd (not_one (inr (inl is)));
      read = λ is. absurd (not_one (inr (inr (inl is))));
      absent = λ is. absurd (not_one (inr (inr (inr (inl is)))));
      too_long = λ is. absurd (not_one (inr (inr (inr (inr (inr (inr (inl is))))))));
      write = λ is. absurd (not_one (inr (inr (inr (inr (inl is))))));
      disk_failed = λ is. absurd (not_one (inr (inr (inr (inr (inr (inr (inr is))))))));
      memory = λ is. absurd (not_one (inr (inr (inr (inr (inr (inl is)))))));
    }

pub fault-status : (fault : Fault) → IsFaultStatus (status_of fault)
fault-status (Refused (Table fault)) = inr (inl (inl refl))
fault-status (Refused (Coded table row code)) = inr (inl (inl refl))
fault-status (Refused (Journal code)) = inr (inl (inr refl))
fault-status (Read name) = inr (inr (inl refl))
fault-status (Absent name) = inr (inr (inr (inl refl)))
fault-status (TooLong name) = inr (inr (inr (inr (inr (inr (inl refl))))))
fault-status Write = inr (inr (inr (inr (inl refl))))
fault-status Disk = inr (inr (inr (inr (inr (inr (inr refl))))))
fault-status NoMemory = inr (inr (inr (inr (inr (inl refl)))))

-- how a command ended by a fault, by the fault
pub Ends-fault : (command : Meaning) (before now : Outside) (fault : Fault) → EndsBy command before now fault → Says before now (line_of fault) → Ends (asks command) before now (status_of fault)
Ends-fault command before now (Refused (Table fault)) ends says = record {
  done = λ no. absurd (no (fault-status (Refused (Table fault))));
  usage = λ is. absurd (omega arith);
  refused_so = λ _. (line_of (Refused (Table fault)), ends, says);
  read = λ is. absurd (omega arith);
  absent = λ is. absurd (omega arith);
  too_long = λ is. absurd (omega arith);
  write = λ is. absurd (omega arith);
  disk_failed = λ is. absurd (omega arith);
  memory = λ is. absurd (omega arith);
}
Ends-fault command before now (Refused (Coded table row code)) ends says = record {
  done = λ no. absurd (no (fault-status (Refused (Coded table row code))));
  usage = λ is. absurd (omega arith);
  refused_so = λ _. (line_of (Refused (Coded table row code)), ends, says);
  read = λ is. absurd (omega arith);
  absent = λ is. absurd (omega arith);
  too_long = λ is. absurd (omega arith);
  write = λ is. absurd (omega arith);
  disk_failed = λ is. absurd (omega arith);
  memory = λ is. absurd (omega arith);
}
Ends-fault command before now (Refused (Journal code)) ends says = record {
  done = λ no. absurd (no (fault-status (Refused (Journal code))));
  usage = λ is. absurd (omega arith);
  refused_so = λ _. (line_of (Refused (Journal code)), ends, says);
  read = λ is. absurd (omega arith);
  absent = λ is. absurd (omega arith);
  too_long = λ is. absurd (omega arith);
  write = λ is. absurd (omega arith);
  disk_failed = λ is. absurd (omega arith);
  memory = λ is. absurd (omega arith);
}
Ends-fault command before now (Read name) ends says = record {
  done = λ no. absurd (no (fault-status (Read name)));
  usage = λ is. absurd (omega arith);
  refused_so = λ is. absurd (omega arith);
  read = λ _. (string_bytes name, ends, says);
  absent = λ is. absurd (omega arith);
  too_long = λ is. absurd (omega arith);
  write = λ is. absurd (omega arith);
  disk_failed = λ is. absurd (omega arith);
  memory = λ is. absurd (omega arith);
}
Ends-fault command before now (Absent name) ends says = record {
  done = λ no. absurd (no (fault-status (Absent name)));
  usage = λ is. absurd (omega arith);
  refused_so = λ is. absurd (omega arith);
  read = λ is. absurd (omega arith);
  absent = λ _. (string_bytes name, ends, says);
  too_long = λ is. absurd (omega arith);
  write = λ is. absurd (omega arith);
  disk_failed = λ is. absurd (omega arith);
  memory = λ is. absurd (omega arith);
}
Ends-fault command before now (TooLong name) ends says = record {
  done = λ no. absurd (no (fault-status (TooLong name)));
  usage = λ is. absurd (omega arith);
  refused_so = λ is. absurd (omega arith);
  read = λ is. absurd (omega arith);
  absent = λ is. absurd (omega arith);
  too_long = λ _. (string_bytes name, ends, says);
  write = λ is. absurd (omega arith);
  disk_failed = λ is. absurd (omega arith);
  memory = λ is. absurd (omega arith);
}
Ends-fault command before now Write ends says = record {
  done = λ no. absurd (no (fault-status Write));
  usage = λ is. absurd (omega arith);
  refused_so = λ is. absurd (omega arith);
  read = λ is. absurd (omega arith);
  absent = λ is. absurd (omega arith);
  too_long = λ is. absurd (omega arith);
  write = λ _. (ends, says);
  disk_failed = λ is. absurd (omega arith);
  memory = λ is. absurd (omega arith);
}
Ends-fault command before now Disk ends says = record {
  done = λ no. absurd (no (fault-status Disk));
  usage = λ is. absurd (omega arith);
  refused_so = λ is. absurd (omega arith);
  read = λ is. absurd (omega arith);
  absent = λ is. absurd (omega arith);
  too_long = λ is. absurd (omega arith);
  write = λ is. absurd (omega arith);
  disk_failed = λ _. (ends, says);
  memory = λ is. absurd (omega arith);
}
Ends-fault command before now NoMemory ends says = record {
  done = λ no. absurd (no (fault-status NoMemory));
  usage = λ is. absurd (omega arith);
  refused_so = λ is. absurd (omega arith);
  read = λ is. absurd (omega arith);
  absent = λ is. absurd (omega arith);
  too_long = λ is. absurd (omega arith);
  write = λ is. absurd (omega arith);
  disk_failed = λ is. absurd (omega arith);
  memory = λ _. (ends, says);
}
