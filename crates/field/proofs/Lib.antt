-- Why the crate `field` meets its contracts: the field laws, over the reduction byte.
-- addition is an abelian group in which x + x = 0
pub mod Addition
-- multiplication: a commutative ring, and `ring`, the set of its laws for `simp`
pub mod Multiplication
-- powers, and the inverse where α is primitive
pub mod Power
-- α is primitive
pub mod Primitive
-- masks of one bit, for the code
mod Mask
