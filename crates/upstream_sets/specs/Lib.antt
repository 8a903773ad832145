pub mod Distinct
pub mod Fitting
pub mod Tables
