-- What the printed texts are, and what a printed plan tells.
pub mod FaultLines
pub mod PlanTexts
pub mod PlanLaws
pub mod RoundTexts
pub mod RoundViews
pub mod CommandForms
pub mod Ranges
pub mod Words
pub mod VerdictTexts
pub mod DemoTexts
pub mod EvidenceTexts
pub mod EvidenceWords
pub mod AuditTexts
pub mod PaymentTexts
pub mod CompressedTexts
