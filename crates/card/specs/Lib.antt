-- The record and the calls on it, in the words of documents 01 and 02. Start with Answers, then Refusals, Records and Calls; Rules has what is proved of them, and Inner the steps on the way, which nobody has to believe.
-- The types (Refusal, Answer, Record, Outcome, OldEnds, Repaired) are those of the code: src/answers.rt and src/records.rt.
pub mod Answers
pub mod Refusals
pub mod Records
pub mod Calls
pub mod Rules
pub mod Inner
