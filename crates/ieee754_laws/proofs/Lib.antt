-- The laws of the single operations that crates above cite, and theorems about the definitions:
-- scaling by a power of 2 and the calculus of degrees, what a regular operation gives, which
-- results are finite and fit the format, the nearest root, the fused multiply-add beside a product
-- and a sum, differences and their squares, signs and orders.
pub mod Powers
pub mod RoundScale
pub mod ScaleLaws
pub mod Degrees
pub mod RegularNormal
pub mod MinPositive
pub mod Finite
pub mod SubLaws
pub mod SquareLaws
pub mod Fitting
pub mod RootRegular
pub mod RootNearest
pub mod FmaLaws
pub mod SignLaws
pub mod LtLaws
pub mod OrderLaws
