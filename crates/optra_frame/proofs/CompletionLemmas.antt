-- What valid or refused contents leave, where nothing outside failed: want of memory alone.
use Rattle.std.proofs.Common.{◌≡◌, ◌⊎◌, inl, inr, ℕ, ◌<◌, List, length, refl, sym, ◌∙◌, subst, arith, Option, Some, None, IsSomeAnd}
use Rattle.optra_outside.specs.Disk.{DiskState}
use Rattle.optra_outside.specs.declared.shelves.ShelfError.TheVariants.{Absent as NotThere, TooLong as Overlong}
use Rattle.optra_frame.specs.declared.fault.Fault.{Fault}
use Rattle.optra_frame.specs.declared.fault.Fault.TheVariants.{Refused, Read, Absent, TooLong, Write, Disk, NoMemory}
use Rattle.optra_frame.specs.CommandLaws.{HasRefusedAlone, IsLawful}
use Rattle.optra_frame.specs.Commands.{Meaning, Request, asks, no_form}
use Rattle.optra_frame.specs.Ending.{Completes, IsValid, IsRefused, Holds, IsMissing, Replies, IsDone, NoFaults, NoReadFaults}
use Rattle.optra_frame.specs.Faults.{EndsBy, line_of, status_of, declined_line, declined_status}
use Rattle.optra_frame.specs.Files.{Contents}
use Rattle.optra_frame.specs.Outside.{Outside, Says}
use Rattle.optra_frame.specs.Replies.{Reply, refused, answered}
use Rattle.optra_frame.specs.Statuses.{usage_status, memory_status}
use Rattle.optra_frame.proofs.GetLemmas.{one-contents, name-held}

-- the reply to what was got is one to what the shelf holds
reply-held : (command : Meaning) (before now : Outside) (contents others : Contents) (reply : Reply) → Holds command before.shelf contents → Replies command before now others reply → command.MayReply contents before.disk now.disk reply
reply-held command before now contents others reply holds replied =
    let same = one-contents command before.shelf others contents replied.whole holds.whole (replied.held holds.tells) holds.held in
    subst (λ (c : Contents). command.MayReply c before.disk now.disk reply) same replied.replies

not_both : (due : ℕ) (line : List ℕ) (status : ℕ) (text : List ℕ) (puts : List (List ℕ × List ℕ)) → answered status text puts ≡ refused due line → ⊥
not_both due line status text puts is = cc

-- contents that are refused are not answered
never-answered : (command : Meaning) → HasRefusedAlone command → (before now : Outside) (due : ℕ) (line : List ℕ) (contents : Contents) (status : ℕ) (text : List ℕ) (puts : List (List ℕ × List ℕ)) → IsRefused command before due line → Replies command before now contents (answered status text puts) → ⊥
never-answered command alone before now due line contents status text puts refuses replied =
    not_both due line status text puts
    (alone refuses.contents before.disk refuses.disk now.disk due line (answered status text puts) refuses.told refuses.refuses (reply-held command before now refuses.contents contents (answered status text puts) refuses.holds replied))

same_status : (status due : ℕ) (line other : List ℕ) → refused status other ≡ refused due line → status ≡ due
same_status status due line other is = cc

same_line : (status due : ℕ) (line other : List ℕ) → refused status other ≡ refused due line → other ≡ line
same_line status due line other is = cc

-- a file that is held isn't missing
never-absent : (command : Meaning) (before now : Outside) (contents : Contents) (name : List ℕ) → Holds command before.shelf contents → IsMissing command before now NotThere name → ⊥
never-absent command before now contents name holds missing =
    let (content, is, within) = name-held command before.shelf missing.refuses.contents contents name missing.refuses.asked holds.whole (missing.refuses.earlier holds.tells) holds.held missing.refuses.next in
    let lost : None ≡ Some content = sym ((missing.refuses.absent refl).1 holds.tells) ∙ is in
    absurd (cc)

-- a file that is held within the limit isn't too long
never-overlong : (command : Meaning) (before now : Outside) (contents : Contents) (name : List ℕ) → Holds command before.shelf contents → IsMissing command before now Overlong name → ⊥
never-overlong command before now contents name holds missing =
    let (content, is, within) = name-held command before.shelf missing.refuses.contents contents name missing.refuses.asked holds.whole (missing.refuses.earlier holds.tells) holds.held missing.refuses.next in
    let long : before.shelf.limit < length content = subst (λ o. IsSomeAnd o (λ c. before.shelf.limit < length c)) is ((missing.refuses.too_long refl).1 holds.tells) in
    absurd (omega (arith, within, long))

-- what the shelf holds is accepted, and nothing outside failed
complete : (command : Meaning) (before now : Outside) (fault : Fault) → EndsBy command before now fault → NoFaults command before now → IsValid command before → status_of fault ≡ memory_status
complete command before now (Refused declined) ends none valid =
    absurd (valid.accepted (declined_status declined) (declined_line declined) now.disk (reply-held command before now valid.contents ends.contents (refused (declined_status declined) (declined_line declined)) valid.holds ends.replied))
complete command before now (Read name) ends none valid = absurd (none.reads.read (ends.refuses.failed refl))
complete command before now (Absent name) ends none valid = absurd (never-absent command before now valid.contents _ valid.holds ends)
complete command before now (TooLong name) ends none valid = absurd (never-overlong command before now valid.contents _ valid.holds ends)
complete command before now Write ends none valid = elim ends.cause [ inl put ↦ absurd (none.write put.part.cause) | inr out ↦ absurd (none.out out.cause) ]
complete command before now Disk ends none valid = absurd (none.reads.disk ends.uses ends.cause)
complete command before now NoMemory ends none valid = refl

-- what the shelf holds is refused, and no read failed
refuses : (command : Meaning) → HasRefusedAlone command → (before now : Outside) (fault : Fault) → EndsBy command before now fault → Says before now (line_of fault) → NoReadFaults command before now → (due : ℕ) (line : List ℕ) → IsRefused command before due line
    → ((status_of fault ≡ due) × Says before now line) ⊎ (status_of fault ≡ memory_status)
refuses command alone before now (Refused declined) ends says none due line refused-so =
    let only : refused (declined_status declined) (declined_line declined) ≡ refused due line =
    alone refused-so.contents before.disk refused-so.disk now.disk due line (refused (declined_status declined) (declined_line declined)) refused-so.told refused-so.refuses
    (reply-held command before now refused-so.contents ends.contents (refused (declined_status declined) (declined_line declined)) refused-so.holds ends.replied) in
    inl (same_status (declined_status declined) due line (declined_line declined) only, subst (λ l. Says before now l) (same_line (declined_status declined) due line (declined_line declined) only) says)
refuses command alone before now (Read name) ends says none due line refused-so = absurd (none.read (ends.refuses.failed refl))
refuses command alone before now (Absent name) ends says none due line refused-so = absurd (never-absent command before now refused-so.contents _ refused-so.holds ends)
refuses command alone before now (TooLong name) ends says none due line refused-so = absurd (never-overlong command before now refused-so.contents _ refused-so.holds ends)
refuses command alone before now Write ends says none due line refused-so = absurd (never-answered command alone before now due line ends.contents ends.status ends.text ends.puts refused-so ends.replied)
refuses command alone before now Disk ends says none due line refused-so = absurd (none.disk ends.uses ends.cause)
refuses command alone before now NoMemory ends says none due line refused-so = inr refl

pub Completes-usage : (forms : List ℕ) (before now : Outside) → Completes (no_form forms) before now usage_status
Completes-usage forms before now = record { no_form = λ _. inl refl; refuses = tt; complete = tt }

pub Completes-unread : (request : Request) (before now : Outside) → Completes request before now memory_status
Completes-unread (no_form forms) before now = record { no_form = λ _. inr refl; refuses = tt; complete = tt }
Completes-unread (asks command) before now = record { no_form = λ _. inr refl; refuses = λ none due line refused-so. inr refl; complete = λ none valid. inr refl }

pub Completes-done : (command : Meaning) (before now : Outside) (status : ℕ) → IsLawful command → IsDone command before now status → Completes (asks command) before now status
Completes-done command before now status lawful done = record {
  no_form = λ none. absurd none;
  refuses = λ none due line refused-so. absurd (never-answered command lawful.refused_alone before now due line done.contents status done.text done.puts refused-so done.replied);
  complete = λ none valid. inl done.done;
}

pub Completes-fault : (command : Meaning) (before now : Outside) (fault : Fault) → IsLawful command → EndsBy command before now fault → Says before now (line_of fault) → Completes (asks command) before now (status_of fault)
Completes-fault command before now fault lawful ends says = record {
  no_form = λ none. absurd none;
  refuses = λ none due line refused-so. refuses command lawful.refused_alone before now fault ends says none due line refused-so;
  complete = λ none valid. inr (complete command before now fault ends none valid);
}
