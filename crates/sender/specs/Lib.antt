-- The sending side that a head and the words of its lent tables show.
-- To read: Seen. The rest are laws.
pub mod Seen
pub mod SeenLaws
pub mod BlankLaws
