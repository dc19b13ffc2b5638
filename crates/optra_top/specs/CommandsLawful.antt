-- The commands keep to the laws of commands.
use Rattle.std.proofs.Common.{inl, inr, ℕ, arith}
use Rattle.optra_text.specs.FaultLines.{refusal_line}
use Rattle.optra_text.specs.declared.words.Words.{Words}
use Rattle.optra_text.specs.declared.words.Words.TheVariants.{Plan, Check, Auction, Demo, Audit, Pay, House, Compress}
use Rattle.optra_frame.specs.CommandLaws.{HasRefusedAlone, IsLawful}
use Rattle.optra_frame.specs.Statuses.{IsFaultStatus}
use Rattle.optra_frame.specs.TableFiles.{meaning_of, table_status}
use Rattle.optra_frame.proofs.RefusalLemmas.{refused-alone}
use Rattle.optra_top.specs.AuctionCommand.{PrintsTablesPlay, auction_of}
use Rattle.optra_top.specs.AuditCommand.{PrintsAudit}
use Rattle.optra_verdict.specs.CheckCommand.{PrintsTablesVerdict, certificate_in}
use Rattle.optra_top.specs.Commands.{IsDoneStatus, command_of}
use Rattle.optra_top.specs.HouseCommand.{stamp_in}
use Rattle.optra_top.specs.HouseLawful.{house-refused-alone}
use Rattle.optra_top.specs.CompressCommand.{PrintsCompressed}
use Rattle.optra_top.specs.PayCommand.{PrintsTablesPayments}
use Rattle.optra_top.specs.PlanCommand.{PrintsTablesPlan}
use Rattle.optra_top.specs.TimetableRead.{timed_line, timed_of, timed_status}

done-no_fault : (words : Words) (status : ℕ) → IsDoneStatus words status → IsFaultStatus status → ⊥
done-no_fault (Plan net bids stops steps budget cert) status (inl a) fault = absurd (omega arith)
done-no_fault (Plan net bids stops steps budget cert) status (inr a) fault = absurd (omega arith)
done-no_fault (Check net bids stops cert) status (inl a) fault = absurd (omega arith)
done-no_fault (Check net bids stops cert) status (inr a) fault = absurd (omega arith)
done-no_fault (Auction net bids stops rules actions certs) status (inl a) fault = absurd (omega arith)
done-no_fault (Auction net bids stops rules actions certs) status (inr a) fault = absurd (omega arith)
done-no_fault (Demo seed size) status (inl a) fault = absurd (omega arith)
done-no_fault (Demo seed size) status (inr a) fault = absurd (omega arith)
done-no_fault (Audit net bids stops times) status (inl a) fault = absurd (omega arith)
done-no_fault (Audit net bids stops times) status (inr a) fault = absurd (omega arith)
done-no_fault (Pay net bids stops steps budget) status (inl a) fault = absurd (omega arith)
done-no_fault (Pay net bids stops steps budget) status (inr a) fault = absurd (omega arith)
done-no_fault (House net bids stops rules actions journal) status (inl a) fault = absurd (omega arith)
done-no_fault (House net bids stops rules actions journal) status (inr a) fault = absurd (omega arith)
done-no_fault (Compress net bids stops times) status (inl a) fault = absurd (omega arith)
done-no_fault (Compress net bids stops times) status (inr a) fault = absurd (omega arith)

refused-only : (words : Words) → HasRefusedAlone (command_of words)
refused-only (Plan net bids stops steps budget cert) contents before now now' status line reply told refuses replies =
    refused-alone table_status refusal_line (PrintsTablesPlan (record { steps = steps; budget = budget; cert = cert })) (meaning_of contents) status line reply refuses replies
refused-only (Check net bids stops cert) contents before now now' status line reply told refuses replies =
    refused-alone table_status refusal_line (PrintsTablesVerdict (certificate_in contents)) (meaning_of contents) status line reply refuses replies
refused-only (Auction net bids stops rules actions certs) contents before now now' status line reply told refuses replies =
    refused-alone table_status refusal_line (PrintsTablesPlay certs) (auction_of contents) status line reply refuses replies
refused-only (Demo seed size) contents before now now' status line reply told refuses replies = absurd refuses
refused-only (Audit net bids stops times) contents before now now' status line reply told refuses replies =
    refused-alone timed_status timed_line PrintsAudit (timed_of contents) status line reply refuses replies
refused-only (Pay net bids stops steps budget) contents before now now' status line reply told refuses replies =
    refused-alone table_status refusal_line (PrintsTablesPayments (record { steps = steps; budget = budget })) (meaning_of contents) status line reply refuses replies
refused-only (House net bids stops rules actions journal) contents before now now' status line reply told refuses replies =
    house-refused-alone journal (stamp_in contents) (auction_of contents) before now now' status line reply told refuses replies
refused-only (Compress net bids stops times) contents before now now' status line reply told refuses replies =
    refused-alone timed_status timed_line PrintsCompressed (timed_of contents) status line reply refuses replies

pub each-lawful : (words : Words) → IsLawful (command_of words)
each-lawful words = record { done_apart = λ status done fault. done-no_fault words status done fault; refused_alone = refused-only words }
