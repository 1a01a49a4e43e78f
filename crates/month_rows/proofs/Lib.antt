-- Laws that the functions' proofs cite.
-- one value
pub mod ValueLaws
-- one row in memory, its forbidden levels, and several rows of one width
pub mod RowLaws
pub mod ForbidLaws
pub mod ManyRows
-- all rows through one month
pub mod OneMonth
