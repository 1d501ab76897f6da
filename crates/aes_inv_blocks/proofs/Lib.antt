mod Equivalent
mod Products
