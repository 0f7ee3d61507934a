-- In the order in which to read them. What the headline says comes first: the state, the rule book
-- and its small words, deliveries, posts and events; then who is in which transaction, what is left
-- of a history, what there is to see of it, and the answer to a step.
--
-- Letters: S is a state, V a view, t a table of marks, X a set of starters to leave out, h a
-- history, e its newest entry, ev an event, F a footprint, o an object, c a caller, p and q
-- processes, n any number. Four have two meanings, by type: s is a starter or a signal, m a mark or
-- a signal that is sent, f an effect or a descriptor, r a role, or a reply or its number.
pub mod Numbers
pub mod SignalSets
pub mod Memory
pub mod State
pub mod Posts
pub mod Effects
pub mod Forms
pub mod Signals
pub mod Descriptors
pub mod Processes
pub mod Book
pub mod Deliveries
pub mod Events
pub mod Membership
pub mod History
pub mod View
pub mod Answer
pub mod Schedules
-- What the other promises add: the footprint of a step, and the numbers that are free.
pub mod Footprints
pub mod FreeNumbers
-- Words and first laws, for the contracts and proofs above. Nothing here has to be believed.
pub mod Words
pub mod StateLaws
pub mod ObjectFacts
pub mod BookLaws
